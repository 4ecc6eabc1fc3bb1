-- What the facts of a node say of the places in its lists: each label is shared lawfully, a Live leg has its labels,
-- the leg of a two-way LSP has those for the way back, and the state of each call fits its legs.
use Rattle.std.proofs.{Common.{◌≡◌, ◌<◌, ℕ, Bool, true, false, not, nat_eq, List, [], ◌∷◌, refl, sym, subst, ◌∙◌, arith, inl, inr}, lemmas.List.Elements.All-from_recursion, lemmas.List.Kept.AllPairs-cons, lemmas.Bool.not-true}
use Rattle.std.specs.{Prelude.{◌&&◌, Some, IsTrue}, List.{AllByRecursion, AllPairs}}
use Rattle.ason_base.specs.{declared.ids.Lsp.Lsp, declared.calls.Phase.Phase, declared.calls.Phase.TheVariants.Live, declared.tables.CallRec.CallRec, declared.tables.Leg.Leg, Lsps.{lsp_before, same_lsp}, Network.Network}
use Rattle.mesh_rules.specs.{Calls.names, Legs.{find_leg, is_closing, is_marked}, Changes.changed, Events.after, LocalNodes.{LocalNode, local_node}, Machine.start, State.{NodeState, new_node}}
use Rattle.ason_base.proofs.Bools.{and-left, and-right}
use Rattle.lsp_laws.specs.{LabelLaw.{AreNotBothMarked, EveryLabelIsShared, EveryLegHasBackLabels, EveryLiveLegIsLabelled, HasBackLabels, IsLabelled, LabelsAreShared, ShareLawfully}, LearntLaw.EveryLearntRowIsTrue, NodeLaw.{EveryNodeSharesLawfully, MayCome, NodeInput, Item, Message, Row, Tick, after_inputs, answer}, CallLaw.{CallsFit, EveryCallFitsItsLegs, FitsLegs, IsOfOneCall, wants_call}}
use Rattle.lsp_laws.proofs.{nodes.Facts.{FitsPhase, NodeFacts}, nodes.MessageKeeps.keeps-on_message, nodes.OrderKeeps.keeps-on_item, nodes.NodeRuns.{facts-hold, keeps-row, new-facts}, nodes.TickKeeps.keeps-tick}
use Rattle.mesh_nodes.specs.Order.{CallsRise, LegsRise}
use Rattle.mesh_nodes.proofs.{LegList.{all-found, before-apart, found-all, found-lsp, same_lsp-refl}, CallList.{all-calls_found, one-count}}

-- Labels

-- a leg that is found among the later ones is found among all
found-later : (g : Leg) (legs : List Leg) (l : Lsp) (h : Leg) →
    AllByRecursion (λ x. IsTrue (lsp_before g.lsp x.lsp)) legs → find_leg l legs ≡ Some h →
    find_leg l (g ∷ legs) ≡ Some h
found-later g legs l h above found =
    let before : lsp_before g.lsp h.lsp ≡ true =
    found-all (λ x. IsTrue (lsp_before g.lsp x.lsp)) l legs h found above in
    let apart : same_lsp g.lsp l ≡ false =
    subst (λ x. same_lsp g.lsp x ≡ false) (found-lsp l legs h found) (before-apart g.lsp h.lsp before) in
    rw apart found

-- what holds of the legs of two different LSPs holds of the legs at two different places
pub pairs : (R : Leg → Leg → Type 0) (legs : List Leg) → LegsRise legs →
    ((l m : Lsp) (g h : Leg) → find_leg l legs ≡ Some g → find_leg m legs ≡ Some h → (l ≡ m → ⊥) → R g h) →
    AllPairs R legs
pairs R [] rise fit = λ i j d less below. absurd (omega arith)
pairs R (g ∷ legs) rise fit =
    AllPairs-cons R g legs
    (All-from_recursion (R g) legs (all-found (R g) legs rise.1
    (λ m h found. fit g.lsp m g h (rw (same_lsp-refl g.lsp) refl) (found-later g legs m h rise.0 found) (λ same.
    let is = found-lsp m legs h found in
    let before : lsp_before g.lsp h.lsp ≡ true =
    found-all (λ x. IsTrue (lsp_before g.lsp x.lsp)) m legs h found rise.0 in
    let apart : same_lsp g.lsp h.lsp ≡ false = before-apart g.lsp h.lsp before in
    let test : same_lsp g.lsp h.lsp ≡ true =
    subst (λ x. same_lsp g.lsp x ≡ true) (same ∙ sym is) (same_lsp-refl g.lsp) in
    cc (apart, test)))))
    (pairs R legs rise.1 (λ l m a b at_l at_m.
    fit l m a b (found-later g legs l a rise.0 at_l) (found-later g legs m b rise.0 at_m)))

labels-shared : (n : ℕ) (s : NodeState) → NodeFacts n s → LabelsAreShared s.legs
labels-shared n s facts = record {
  shared = pairs ShareLawfully s.legs facts.legs_rise (λ l m g h at_l at_m differ f x this that.
      elim (facts.labels f x l m g h at_l at_m this that) [
        | inr shares ↦ shares
        | inl same ↦ absurd (differ same)
      ]);
  marked = pairs AreNotBothMarked s.legs facts.legs_rise (λ l m g h at_l at_m differ f x this that.
      not-both (is_marked g) (is_marked h) (λ a b. differ (facts.marks f x l m g h at_l at_m this that a b)));
}
  where
    not-both : (a b : Bool) → (a ≡ true → b ≡ true → ⊥) → (a && b) ≡ false
    not-both true true never = absurd (never refl refl)
    not-both true false never = refl
    not-both false b never = refl

pub every_label : EveryLabelIsShared
every_label t events run n =
    labels-shared n ((after t start events).nodes n) ((facts-hold t events run).node n)

-- The same whatever comes to a node

facts-after : (t : Network) (p : LocalNode) (s : NodeState) (inputs : List NodeInput) → NodeFacts p.id.0 s →
    AllByRecursion (MayCome t p.id.0) inputs → NodeFacts p.id.0 (after_inputs p s inputs)
facts-after t p s [] facts may = facts
facts-after t p s (i ∷ inputs) facts may =
    facts-after t p (changed s (answer p s i)) inputs (one i facts may.0) may.1
  where
    one : (i : NodeInput) → NodeFacts p.id.0 s → MayCome t p.id.0 i → NodeFacts p.id.0 (changed s (answer p s i))
    one (Message u m) facts may = keeps-on_message p s u m facts
    one (Item i) facts may = keeps-on_item p s i facts
    one (Row row) facts may = keeps-row p s row facts
    one Tick facts may = keeps-tick p s facts

pub every_node : EveryNodeSharesLawfully
every_node t n inputs may =
    labels-shared n.0 (after_inputs (local_node t n) new_node inputs)
    (facts-after t (local_node t n) new_node inputs (new-facts n.0) may)

-- a Live leg's labels are those of its fibres
live-labelled : (f : Phase) (g : Leg) → FitsPhase f g → f ≡ Live → IsLabelled g
live-labelled Live g fits e = record { enters = fits.0; leaves = fits.1 }
live-labelled _ g fits e = absurd cc

pub every_live : EveryLiveLegIsLabelled
every_live t events run n =
    let facts = (facts-hold t events run).node n in
    All-from_recursion (λ g. g.phase ≡ Live → IsLabelled g) _
    (all-found (λ g. g.phase ≡ Live → IsLabelled g) _ facts.legs_rise
    (λ l g found live. live-labelled g.phase g (facts.leg l g found).phase live))

pub every_back : EveryLegHasBackLabels
every_back t events run n =
    let facts = (facts-hold t events run).node n in
    All-from_recursion HasBackLabels _
    (all-found HasBackLabels _ facts.legs_rise (λ l g found. (facts.leg l g found).back))

-- Calls

calls-rise : (calls : List CallRec) → CallsRise calls → AllPairs (λ c d. c.call.0 < d.call.0) calls
calls-rise [] rise = λ i j d less below. absurd (omega arith)
calls-rise (c ∷ calls) rise =
    AllPairs-cons (λ c d. c.call.0 < d.call.0) c calls
    (All-from_recursion (λ d. c.call.0 < d.call.0) calls rise.0) (calls-rise calls rise.1)

one_call : (n : ℕ) (s : NodeState) → NodeFacts n s → (l : Lsp) (g : Leg) → find_leg l s.legs ≡ Some g →
    IsTrue (wants_call n g) → IsOfOneCall s.calls g
one_call n s facts l g found wants =
    let is : g.lsp ≡ l = found-lsp l s.legs g found in
    let test : nat_eq g.lsp.ingress.0 n ≡ true = and-left _ (not (is_closing g.phase)) wants in
    let here : g.lsp.ingress.0 ≡ n = grind arith in
    let there : find_leg g.lsp s.legs ≡ Some g = subst (λ k. find_leg k s.legs ≡ Some g) (sym is) found in
    let stands : is_closing g.phase ≡ false = not-true _ (and-right (nat_eq g.lsp.ingress.0 n) _ wants) in
    let has = facts.has_call g.lsp g there here stands in
    one-count (names g.lsp) s.calls has.call.call has.call facts.calls_rise has.found has.named
    (λ m d at_m named.
    facts.one_call g.lsp m has.call.call d has.call at_m has.found named has.named)

pub calls_fit : (n : ℕ) (s : NodeState) → NodeFacts n s → CallsFit n s
calls_fit n s facts = record {
  rising = calls-rise s.calls facts.calls_rise;
  calls = All-from_recursion (FitsLegs n s.lsp s.legs) s.calls
      (all-calls_found (FitsLegs n s.lsp s.legs) s.calls facts.calls_rise facts.call);
  legs = All-from_recursion (λ g. IsTrue (wants_call n g) → IsOfOneCall s.calls g) s.legs
      (all-found (λ g. IsTrue (wants_call n g) → IsOfOneCall s.calls g) s.legs facts.legs_rise
      (λ l g found. one_call n s facts l g found));
}

pub every_call : EveryCallFitsItsLegs
every_call t events run n = calls_fit n _ ((facts-hold t events run).node n)

-- Rows

pub every_learnt_row : EveryLearntRowIsTrue
every_learnt_row t events run n = (facts-hold t events run).learnt n
