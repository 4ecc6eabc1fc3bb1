-- Sweeps in order: where nodes alone are told of a goal, each such sweep brings it nearer by one.
use Rattle.std.proofs.{Common.{◌≡◌, ◌≤◌, ◌<◌, ◌⊎◌, ℕ, suc, ◌+◌, Bool, true, false, cond, nat_eq, nat_lt, List, [], ◌∷◌, ◌++◌, refl, sym, subst, arith, inl, inr}, lemmas.Bool.cases_lt}
use Rattle.std.specs.Prelude.{◌||◌}
use Rattle.ason_base.specs.{Network.{IsTopology, Network, is_node_id}, declared.commands.DeskItem.DeskItem, declared.messages.Msg.Msg, declared.network.NodeSpec.NodeSpec}
use Rattle.mesh_rules.specs.{declared.events.MeshEvent.MeshEvent, Events.after, Machine.Mesh}
use Rattle.lsp_laws.proofs.hops.Plans.{lt_false, lt_true}
use Rattle.mesh_laws.proofs.{Numbered.{NodeIdsRise, rises}, alone.AloneRuns.after-append, soon.Delays.late-one, soon.RouteNodes.IsNodeNumber, soon.Soon.{AllGood, Goal, HasPart, IsFair, Nears, Once, Passes, Soon, StillWaits, Within, good-first, good-later, nearer, over-part}}
use Rattle.mesh_laws.specs.Sweeps.{AreParts, IsPartOf, IsSweepInOrder, late}

-- Which nodes had their part

-- those below x had it, and wait for the next sweep
abbrev had_part : ℕ → ℕ → ℕ
had_part x d = cond (nat_lt d x) 1 0

had-one : {x d : ℕ} → d < x → had_part x d ≡ 1
had-one less = rw (lt_true less) refl

had-none : {x d : ℕ} → x ≤ d → had_part x d ≡ 0
had-none most = rw (lt_false most) refl

-- what is sent to a node that had its part comes from one that had it, or is late
part-fair : (x : ℕ) → IsFair late (had_part x)
part-fair x u v = go (cases_lt v x) (cases_lt u x) (cases_lt u v)
  where
    go : (v < x) ⊎ (x ≤ v) → (u < x) ⊎ (x ≤ u) → (u < v) ⊎ (v ≤ u) → had_part x v ≤ had_part x u + late u v
    go (inr more) two three = let h = had-none more in omega (arith, h)
    go (inl less) (inl two) three = let h = had-one less in let g = had-one two in omega (arith, h, g)
    go (inl less) (inr two) (inl three) = absurd (omega (arith, less, two, three))
    go (inl less) (inr two) (inr three) = let h = had-one less in let g = late-one three in omega (arith, h, g)

-- what n sends to a node that had its part as n had is late
had-late : (n v : ℕ) → had_part (suc n) v ≤ late n v
had-late n v = go (cases_lt v (suc n))
  where
    go : (v < suc n) ⊎ (suc n ≤ v) → had_part (suc n) v ≤ late n v
    go (inl less) =
        let h = had-one less in let most : v ≤ n = omega (arith, less) in let g = late-one most in omega (arith, h, g)
    go (inr more) = let h = had-none more in omega (arith, h)

-- the first number is this one at least, and each is above the one before
abbrev pub Ascend : ℕ → List NodeSpec → Type 0
Ascend x [] = Unit {0}
Ascend x (n ∷ ns) = (x ≤ n.id.0) × Ascend (suc n.id.0) ns

-- as the nodes of a topology do
pub ascend : (x m : ℕ) (ns : List NodeSpec) → x ≤ suc m → NodeIdsRise m ns → Ascend x ns
ascend x m [] low rise = tt
ascend x m (n ∷ ns) low rise =
    let above : m < n.id.0 = rise.0 in (omega (arith, low, above), ascend (suc n.id.0) n.id.0 ns (omega arith) rise.1)

-- a node of the list has at least the number of the first
pub in-above : (x d : ℕ) (ns : List NodeSpec) → Ascend x ns → is_node_id ns (record { 0 = d }) ≡ true → x ≤ d
in-above x d [] rise is = absurd (cc is)
in-above x d (n ∷ ns) rise is =
    go (nat_eq n.id.0 d) (λ e. grind (arith, e)) is (λ later. in-above (suc n.id.0) d ns rise.1 later)
  where
    go : (b : Bool) → (b ≡ true → n.id.0 ≡ d) → (b || is_node_id ns (record { 0 = d })) ≡ true →
        (is_node_id ns (record { 0 = d }) ≡ true → suc n.id.0 ≤ d) → x ≤ d
    go true same is later = let e = same refl in let low = rise.0 in omega (arith, e, low)
    go false same is later = let h = later is in let low = rise.0 in omega (arith, h, low)

-- a node that had its part, or will have it
abbrev pub HasOrWill : ℕ → List NodeSpec → ℕ → Type 0
HasOrWill x ns d = (d < x) ⊎ (is_node_id ns (record { 0 = d }) ≡ true)

-- after the part of the first
pub has-then : (x : ℕ) (n : NodeSpec) (ns : List NodeSpec) (d : ℕ) → x ≤ n.id.0 → HasOrWill x (n ∷ ns) d →
    HasOrWill (suc n.id.0) ns d
has-then x n ns d low (inl less) = inl (omega (arith, low, less))
has-then x n ns d low (inr is) = go (nat_eq n.id.0 d) (λ e. grind (arith, e)) is
  where
    go : (b : Bool) → (b ≡ true → n.id.0 ≡ d) → (b || is_node_id ns (record { 0 = d })) ≡ true →
        HasOrWill (suc n.id.0) ns d
    go true same is = let e = same refl in inl (omega (arith, e))
    go false same is = inr is

-- Over the part of the first node each waits no longer than it did, but that node, and there all is taken.
over-first : (s : Mesh) (es : List MeshEvent) (x : ℕ) (n : NodeSpec) (ns : List NodeSpec) (d : ℕ) →
    Ascend x (n ∷ ns) → IsPartOf s n.id.0 es → HasOrWill x (n ∷ ns) d →
    Passes late (had_part x) (had_part (suc n.id.0)) s es d
over-first s es x n ns d rise part has = go (cases_lt d n.id.0) (cases_lt n.id.0 d) has
  where
    go : (d < n.id.0) ⊎ (n.id.0 ≤ d) → (n.id.0 < d) ⊎ (d ≤ n.id.0) → HasOrWill x (n ∷ ns) d →
        Passes late (had_part x) (had_part (suc n.id.0)) s es d
    go one (inl more) has =
        let above : suc n.id.0 ≤ d = omega (arith, more) in
        let h = had-none above in StillWaits (omega (arith, h))
    go (inl less) (inr most) (inl had) =
        let below : d < suc n.id.0 = omega (arith, less) in
        let h = had-one had in let g = had-one below in StillWaits (omega (arith, h, g))
    go (inl less) (inr most) (inr is) =
        absurd (let h = in-above n.id.0 d (n ∷ ns) (omega arith, rise.1) is in omega (arith, h, less))
    go (inr least) (inr most) has =
        let same : n.id.0 ≡ d = omega (arith, least, most) in
        subst (λ z. Passes late (had_part x) (had_part (suc n.id.0)) s es z) same
        (HasPart part (λ v. let h = had-late n.id.0 v in omega (arith, h)))

module _ (t : Network) (x : Goal) (nears : Nears t late x)
    (mail : (j u d : ℕ) (m : Msg) → x.Says j u d m → IsNodeNumber t d)
    (desk : (j n : ℕ) (i : DeskItem) → x.Tells j n i → IsNodeNumber t n) where
  -- the parts of these nodes, where those below had theirs
  parts : (ns : List NodeSpec) (from : ℕ) → Ascend from ns → ((d : ℕ) → IsNodeNumber t d → HasOrWill from ns d) →
      (s : Mesh) (es : List MeshEvent) (k : ℕ) → AreParts t ns s es → AllGood t x.Good s es →
      Within x (had_part from) k s → Soon x k (after t s es)
  parts [] from rise all s es k sweep good near =
      over-part t late x nears (had_part from) (λ d. 1) (λ u v. omega arith) s es k good
      (λ j u d m says. go d (all d (mail j u d m says))) (λ j n i tells. go n (all n (desk j n i tells))) near
    where
      go : (d : ℕ) → HasOrWill from [] d → Passes late (had_part from) (λ d. 1) s es d
      go d (inl less) = let h = had-one less in StillWaits (omega (arith, h))
      go d (inr is) = absurd (cc is)
  parts (n ∷ ns) from rise all s es k (one, rest, split, part, more) good near =
      let whole : AllGood t x.Good s (one ++ rest) = subst (AllGood t x.Good s) (sym split) good in
      let then : Within x (had_part (suc n.id.0)) k (after t s one) =
      over-part t late x nears (had_part from) (had_part (suc n.id.0)) (part-fair (suc n.id.0)) s one k
      (good-first t x.Good s one rest whole)
      (λ j u d m says. over-first s one from n ns d rise part (all d (mail j u d m says)))
      (λ j d i tells. over-first s one from n ns d rise part (all d (desk j d i tells))) near in
      subst (λ z. Soon x k (after t s z)) split
      (subst (Soon x k) (sym (after-append t s one rest))
      (parts ns (suc n.id.0) rise.1 (λ d is. has-then from n ns d rise.0 (all d is)) (after t s one) rest k more
      (good-later t x.Good s one rest whole) then))

  -- In a sweep in order it gets nearer by one.
  pub ordered-once : IsTopology t → Once t x (IsSweepInOrder t)
  ordered-once valid s es k sweep good near =
      parts t.nodes 0 (ascend 0 0 t.nodes (omega arith) (rises t valid)) (λ d is. inr is) s es k sweep good
      (nearer x (λ d. 0) (had_part 0) k k s
      (λ v. let low : 0 ≤ v = omega arith in let h = had-none low in omega (arith, h)) near)
