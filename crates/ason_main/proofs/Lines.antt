-- What one line of a script does.
use Rattle.std.proofs.Common.{◌≡◌, ◌∙◌, ℕ, Bool, true, false, cond, List, [], ◌∷◌, inl, refl, sym, ap, subst}
use Rattle.std.specs.{Prelude.{◌↔◌, ◌&&◌, IsTrue, None, is_some, not}, List.Sorted.{IsPermutation, IsSortedBy}}
use Rattle.ason_base.specs.{declared.calls.TableRows.TableRows, declared.commands.Command.Command, declared.commands.Disturb.Disturb, Network.Network}
use Rattle.ason_base.specs.declared.commands.Event.TheVariants as event
use Rattle.mesh_rules.specs.{Commands.{is_again, is_valid}, Rows.{all_call_rows, all_leg_rows}}
use Rattle.world_rules.specs.{Images.{IsQuietWorld, image}, WorldRuns.IsEnabled, Worlds.World}
use Rattle.round_rules.specs.{Records.{Record, world_of}, Waiting.{is_world_quiet, items_waiting, rows_waiting, unacked_waiting}}
use Rattle.fleet.specs.{Commands.{Disturbs, Posts, FleetStandsOn}, FleetLaws.QuietIsTheWorlds, Standing.{FleetState, StandsFor}}
use Rattle.plan_reader.specs.declared.lines.Line.TheVariants as said
use Rattle.plan_reader.specs.{declared.lines.Line.Line, declared.lines.Line.TheVariants.{Post, Settle, Show}, declared.plan.Plan.Plan}
use Rattle.table_text.specs.TableText.{table_text, unsettled_text}
use Rattle.script_rules.specs.{Stages.{with_line, with_post, world_at}, Tables.{IsTable, IsUnsettledLine, call_before, leg_before, unsettled_line}}
use Rattle.ason_main.specs.{declared.runner.stops.Stop.Stop, Running.{AreLed, Does, IsFleetTable, LineTells, Stops, TellsUnsettled}}
use Rattle.ason_main.proofs.Rounding.{led_none, led_one}

-- What lines do

both_tests : (a b : Bool) → a ≡ true → b ≡ false → (a && not b) ≡ true
both_tests a b h k = rw (h, k) refl

pub post_does : (t : Network) (workers : ℕ) (c : Command) (old new : FleetState) → Posts c old new →
    Does t workers (Post c) old new None
post_does t workers c old new posts s at can = record {
  more = with_post t c s ∷ [];
  makes = sym (ap (λ o. cond (is_some o) [] (with_post t c s ∷ [])) at.going);
  led = subst (λ o. AreLed t new o s (with_post t c s ∷ [])) at.going
      (led_one t new s (with_post t c s) (posts t s.lines s.made at.stands enabled));
}
  where
    enabled : IsEnabled t (world_of t s.made) (event.Post c)
    enabled = both_tests (is_valid t c) (is_again (world_at t s).posted c) can.0 can.1

-- where memory is wanting for a post the stations stand as before
pub post_stays : (t : Network) (workers : ℕ) (line : Line) (old new : FleetState) → FleetStandsOn old new →
    Stops t workers line old new Stop.OutOfMemory
post_stays t workers line old new same s at =
    record { more = []; left = inl (refl, same t s.lines s.made at.stands); stood = tt }

-- where it is wanting for another line without rounds nothing has changed
pub line_stays : (t : Network) (workers : ℕ) (line : Line) (old new : FleetState) → new ≡ old →
    Stops t workers line old new Stop.OutOfMemory
line_stays t workers line old new same =
    post_stays t workers line old new (λ t lines r stands. subst (λ f. StandsFor t lines f r) (sym same) stands)

pub disturb_does : (t : Network) (workers : ℕ) (d : Disturb) (old new : FleetState) → Disturbs d old new →
    Does t workers (said.Disturb d) old new None
disturb_does t workers d old new disturbs s at can = record {
  more = with_line t d s ∷ [];
  makes = sym (ap (λ o. cond (is_some o) [] (with_line t d s ∷ [])) at.going);
  led = subst (λ o. AreLed t new o s (with_line t d s ∷ [])) at.going
      (led_one t new s (with_line t d s) (disturbs t s.lines s.made at.stands));
}

pub show_does : (t : Network) (workers : ℕ) (f : FleetState) → Does t workers Show f f None
show_does t workers f s at can = record { more = []; makes = refl; led = led_none t f s at }

-- What lines print

-- of the world of whatever record the stations stand for
abbrev pub Whenever : FleetState → (Network → World → Type 0) → Type 0
Whenever f holds =
    (t : Network) (lines : List Disturb) (r : Record) → StandsFor t lines f r → holds t (world_of t r)

-- Settling

abbrev waiting_text : Network → World → List ℕ
waiting_text t w = unsettled_text (items_waiting t w) (unacked_waiting t w) (rows_waiting t w)

-- the world that the stations stand for is quiet just where the nodes are
told_quiet : (t : Network) (w : World) (text : List ℕ) (b : Bool) → is_world_quiet t w ≡ b →
    text ≡ unsettled_line t w → IsTrue (is_world_quiet t w) ↔ IsQuietWorld w → IsUnsettledLine t w text
told_quiet t w text true is line law = record {
  line = line;
  quiet = (λ none. law.0 is, λ quiet. line ∙ ap (λ b. cond b [] (waiting_text t w)) is);
}
told_quiet t w text false is line law = record {
  line = line;
  quiet = (
    λ none. absurd (some (items_waiting t w) (unacked_waiting t w) (rows_waiting t w)
        (sym (line ∙ ap (λ b. cond b [] (waiting_text t w)) is) ∙ none)),
    λ quiet. absurd (differ (is_world_quiet t w) is (law.1 quiet)),
  );
}
  where
    begins : List ℕ → Bool
    begins [] = false
    begins (x ∷ xs) = true

    some : (desk hop flood : ℕ) → unsettled_text desk hop flood ≡ [] → ⊥
    some desk hop flood e = let begun : true ≡ false = ap begins e in absurd (cc (begun))

    differ : (b : Bool) → b ≡ false → b ≡ true → ⊥
    differ b h k = absurd (cc (h, k))

pub tells_nothing : (f : FleetState) (text : List ℕ) → text ≡ [] → QuietIsTheWorlds →
    Whenever f (λ t w. is_world_quiet t w ≡ true) → TellsUnsettled f text
tells_nothing f text none law quiet = record {
  tells = λ t lines r stands.
      told_quiet t (world_of t r) text true (quiet t lines r stands)
      (none ∙ sym (ap (λ b. cond b [] (waiting_text t (world_of t r))) (quiet t lines r stands)))
      (law t lines f r stands);
}

pub tells_counts : (f : FleetState) (text : List ℕ) (desk hop flood : ℕ) → text ≡ unsettled_text desk hop flood →
    QuietIsTheWorlds →
    Whenever f (λ t w. is_world_quiet t w ≡ false) →
    Whenever f (λ t w. desk ≡ items_waiting t w) →
    Whenever f (λ t w. hop ≡ unacked_waiting t w) →
    Whenever f (λ t w. flood ≡ rows_waiting t w) →
    TellsUnsettled f text
tells_counts f text desk hop flood is law busy items unacked rows = record {
  tells = λ t lines r stands.
      told_quiet t (world_of t r) text false (busy t lines r stands)
      (is ∙ ((λ i. unsettled_text (items t lines r stands i) (unacked t lines r stands i) (rows t lines r stands i))
      ∙ sym (ap (λ b. cond b [] (waiting_text t (world_of t r))) (busy t lines r stands)))) (law t lines f r stands);
}

pub tells_settle : (p : Plan) (rounds : ℕ) (f : FleetState) (text : List ℕ) → TellsUnsettled f text →
    LineTells p (Settle rounds) f text
tells_settle p rounds f text tells = record { tells = λ lines r stands. tells.tells p.topology lines r stands }

-- Tables

-- the rows are those of all nodes, for whatever record the stations stand
pub record AreRows (f : FleetState) (rows : TableRows) : Type 0 where
  pub calls : Whenever f (λ t w. rows.calls ≡ all_call_rows t (image w))
  pub legs : Whenever f (λ t w. rows.legs ≡ all_leg_rows t (image w))

-- and these are the same in the order of the table
pub record AreInOrder (rows sorted : TableRows) : Type 0 where
  pub same_calls : IsPermutation rows.calls sorted.calls
  pub calls : IsSortedBy call_before sorted.calls
  pub same_legs : IsPermutation rows.legs sorted.legs
  pub legs : IsSortedBy leg_before sorted.legs

-- the sorted rows are the table
pub sorted_table : (t : Network) (f : FleetState) (rows sorted : TableRows) → AreRows f rows →
    AreInOrder rows sorted → (lines : List Disturb) (r : Record) → StandsFor t lines f r →
    IsTable t (image (world_of t r)) sorted
sorted_table t f rows sorted are order lines r stands = record {
  same_calls = subst (λ xs. IsPermutation xs sorted.calls) (are.calls t lines r stands) order.same_calls;
  calls = order.calls;
  same_legs = subst (λ xs. IsPermutation xs sorted.legs) (are.legs t lines r stands) order.same_legs;
  legs = order.legs;
}

pub tells_table : (p : Plan) (f : FleetState) (rows : TableRows) (text : List ℕ) → IsFleetTable f rows →
    text ≡ table_text p rows → LineTells p Show f text
tells_table p f rows text table is = record {
  tells = λ lines r stands. (rows, table p.topology lines r stands, is);
}
