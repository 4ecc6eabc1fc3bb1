-- The text of a command is one line.
use Rattle.std.proofs.Common.{◌≡◌, ◌+◌, ◌/◌, ◌%◌, ◌==◌, ℕ, zero, suc, Bool, true, false, cond, nat_lt, List, [], ◌∷◌, ◌++◌, Option, Some, None, codes, position, refl, arith}
use Rattle.std.specs.{Fmt.{decimal, digit_glyph, digits, digits_onto}, List.flat_map, Prelude.{slice_get, unwrap_or}}
use Rattle.ason_base.specs.{declared.commands.Command.Command, declared.commands.Command.TheVariants.{Setup, Release, Protect, Retry, Revert, Fail, Repair}, declared.commands.Group.Group, declared.commands.Group.TheVariants.{Srlg, Link}, declared.ids.CallNo.CallNo, declared.ids.NodeId.NodeId, declared.steps.Step.Step}
use Rattle.plan_reader.specs.{FoundNames.{AreFoundByName, FindsByName}, declared.plan.Plan.Plan}
use Rattle.table_text.specs.{RouteText.{links_text, more_link}, SurveyText.group_text, TableText.{call_name, name_at, name_at_place, node_name}}
use Rattle.trace_text.specs.{CommandText.{command_text, directions, protection, route_after, routes_given, setup_ends}, RoundTrip.lacks_byte}
use Rattle.trace_text.proofs.{NamesTold.name_lacks, TextsParted.lacks_both}

abbrev IsLine : List ℕ → Type 0
IsLine text = lacks_byte 10 text ≡ true

both : (xs ys : List ℕ) → IsLine xs → IsLine ys → IsLine (xs ++ ys)
both xs ys first second = lacks_both 10 xs ys first second

-- Numbers

glyph_differs : (d : ℕ) → (digit_glyph false d == 10) ≡ false
glyph_differs d = go (nat_lt d 10)
  where
    go : (b : Bool) → (cond b (48 + d) (87 + d) == 10) ≡ false
    go true = grind arith
    go false = grind arith

either : (b : Bool) (xs ys : List ℕ) → IsLine xs → IsLine ys → IsLine (cond b xs ys)
either true xs ys first second = first
either false xs ys first second = second

digits_lack : (k n : ℕ) (behind : List ℕ) → IsLine behind → IsLine (digits_onto k 10 false n behind)
digits_lack zero n behind h = h
digits_lack (suc k) n behind h =
    let digit : ℕ = digit_glyph false (n % 10) in
    let more : IsLine (digit ∷ behind) = rw (glyph_differs (n % 10)) h in
    either (n / 10 == 0) (digit ∷ behind) (digits_onto k 10 false (n / 10) (digit ∷ behind)) more
    (digits_lack k (n / 10) (digit ∷ behind) more)

decimal_lacks : (n : ℕ) → IsLine (decimal n)
unfolding digits
decimal_lacks n = digits_lack 64 n [] refl

-- Names

name_at_lacks : (names : List (List ℕ)) (k : ℕ) → AreFoundByName names → IsLine (name_at names k)
name_at_lacks names k found = go (slice_get names k) refl
  where
    go : (o : Option (List ℕ)) → slice_get names k ≡ o → IsLine (unwrap_or o [])
    go None e = refl
    go (Some text) e = name_lacks 10 text (omega arith) (found k text e).name

place_lacks : (names : List (List ℕ)) (o : Option ℕ) → AreFoundByName names → IsLine (name_at_place names o)
place_lacks names None found = refl
place_lacks names (Some k) found = name_at_lacks names k found

-- Routes and groups

more_links_lack : (steps : List Step) → IsLine (flat_map more_link steps)
more_links_lack [] = refl
more_links_lack (s ∷ steps) =
    both (more_link s) (flat_map more_link steps) (decimal_lacks s.link.0) (more_links_lack steps)

links_lack : (steps : List Step) → IsLine (links_text steps)
links_lack [] = refl
links_lack (s ∷ steps) =
    both (decimal s.link.0) (flat_map more_link steps) (decimal_lacks s.link.0) (more_links_lack steps)

via_lacks : (route : Option (List Step)) → IsLine (route_after (codes "via") route)
via_lacks None = refl
via_lacks (Some steps) = links_lack steps

backup_lacks : (route : Option (List Step)) → IsLine (route_after (codes "backup") route)
backup_lacks None = refl
backup_lacks (Some steps) = links_lack steps

protection_lacks : (protected : Bool) → IsLine (protection protected)
protection_lacks true = refl
protection_lacks false = refl

directions_lack : (both : Bool) → IsLine (directions both)
directions_lack true = refl
directions_lack false = refl

group_lacks : (g : Group) → IsLine (group_text g)
group_lacks (Srlg n) = decimal_lacks n
group_lacks (Link k) = decimal_lacks k.0

-- Commands

module _ (p : Plan) (finds : FindsByName p) where
  call_lacks : (n : CallNo) → IsLine (call_name p n)
  call_lacks n = name_at_lacks p.call_names n.0 finds.calls

  node_lacks : (n : NodeId) → IsLine (node_name p n)
  node_lacks n = place_lacks p.node_names (position (λ m. m.id.0 == n.0) p.topology.nodes) finds.nodes

  ends_lack : (n : CallNo) (from to : NodeId) → IsLine (setup_ends p n from to)
  ends_lack n from to =
      let call : List ℕ = codes "setup " ++ call_name p n in
      let one : List ℕ = call ++ codes " " ++ node_name p from in
      both (one ++ codes " ") (node_name p to)
      (both one (codes " ")
      (both (call ++ codes " ") (node_name p from) (both call (codes " ") (call_lacks n) refl) (node_lacks from)) refl)
      (node_lacks to)

  -- no newline stands in the text of a command
  pub command_lacks : (c : Command) → IsLine (command_text p c)
  command_lacks (Setup n from to protected two_way via backup) =
      let ends : List ℕ = setup_ends p n from to in
      let asked : List ℕ = ends ++ protection protected in
      both (asked ++ directions two_way) (routes_given via backup)
      (both asked (directions two_way)
      (both ends (protection protected) (ends_lack n from to) (protection_lacks protected)) (directions_lack two_way))
      (both (route_after (codes "via") via) (route_after (codes "backup") backup) (via_lacks via) (backup_lacks backup))
  command_lacks (Release n from) = call_lacks n
  command_lacks (Protect n from) = call_lacks n
  command_lacks (Retry n from) = call_lacks n
  command_lacks (Revert n from) = call_lacks n
  command_lacks (Fail g) = group_lacks g
  command_lacks (Repair g) = group_lacks g
