-- Bytes have one plan or first fault.
use Rattle.std.proofs.Common.{◌≡◌, inl, inr, ℕ, List, Option, None, Some, Result, Ok, Err, codes, sym, ap, subst, ◌∙◌, Bool, true}
use Rattle.toml.specs.Data.{Data, Members, table}
use Rattle.ason_base.specs.{Network.Network, declared.network.LinkSpec.LinkSpec}
use Rattle.plan_reader.specs.{Entries.AndThen, PlanScript.{AddsLine, IsRead, IsReadWith, line_bytes, script_line, no_script, line_put_behind}, PlanTables.{NodeList, elements_at, text_of, ticks_of, top_kind}, PlanTexts.words_of, declared.faults.PlanFault.PlanFault, declared.faults.PlanKind.PlanKind, declared.lines.Line.Line, declared.plan.Plan.Plan, declared.script.Script.Script, Plans.{IsSpelled, IsPlanOf, IsPlanOfParts, IsPlanOver, PlanOf, UnlessFault, plan_links, network_of, plan_nodes, plan_over}}
use Rattle.plan_reader.specs.declared.faults.PlanEntry.TheVariants as entries
use Rattle.plan_reader.proofs.Entries.{read_alone}

read_with_alone :
    (o : Option (List ℕ)) (line : Line) (a b : Result Line PlanKind) → IsReadWith o line a → IsReadWith o line b → a ≡ b
read_with_alone None line a b x y = x ∙ sym y
read_with_alone (Some bytes) line a b (inl x) (inl y) = x.1 ∙ sym y.1
read_with_alone (Some bytes) line a b (inl x) (inr y) = absurd (x.0 y.0 y.1)
read_with_alone (Some bytes) line a b (inr x) (inl y) = absurd (y.0 x.0 x.1)
read_with_alone (Some bytes) line a b (inr x) (inr y) = x.2 ∙ sym y.2

line_alone : (says a b : Result Line PlanKind) → IsRead says a → IsRead says b → a ≡ b
line_alone (Ok line) a b x y = read_with_alone (line_bytes line) line a b x y
line_alone (Err k) a b x y = x ∙ sym y

has_line_alone :
    (w : Bool) (t : Network) (names : List (List ℕ)) (before : Script) (d : Data) (a b : Result Script PlanKind)
    → AddsLine w t names before d a → AddsLine w t names before d b → a ≡ b
has_line_alone w t names before d a b x y =
    let same = line_alone (script_line w t names before.calls (words_of (text_of d))) x.0 y.0 x.1 y.1 in
    x.2 ∙ (ap (line_put_behind before (words_of (text_of d))) same ∙ sym y.2)

over_alone :
    (w : Bool) (d : Data) (known : NodeList) (links : List LinkSpec) (r s : Result Plan PlanFault) → IsPlanOver w d
    known links r
    → IsPlanOver w d known links s → r ≡ s
over_alone w d known links r s x y =
    let t = network_of (ticks_of d) known links in
    let same =
    read_alone entries.Script (AddsLine w t known.names) (has_line_alone w t known.names) 1 no_script
    (elements_at (codes "script") d) x.0 y.0 x.1 y.1 in
    x.2 ∙ (ap (plan_over d known links) same ∙ sym y.2)

then_alone :
    {A : Type 0} (first : Result A PlanFault) (Next : A → Result Plan PlanFault → Type 0) (r s : Result Plan PlanFault)
    → ((a : A) → Next a r → Next a s → r ≡ s) → AndThen first Next r → AndThen first Next s → r ≡ s
then_alone (Ok a) Next r s alone x y = alone a x y
then_alone (Err f) Next r s alone x y = x ∙ sym y

nodes_alone : (w : Bool) (d : Data) (r s : Result Plan PlanFault) → IsPlanOfParts w d r → IsPlanOfParts w d s → r ≡ s
nodes_alone w d r s x y =
    then_alone (plan_nodes (elements_at (codes "node") d))
    (λ known. AndThen (plan_links known (elements_at (codes "link") d)) (IsPlanOver w d known)) r s
    (λ known a b.
    then_alone (plan_links known (elements_at (codes "link") d)) (IsPlanOver w d known) r s
    (λ links u v. over_alone w d known links r s u v) a b) x y

plan_alone : (w : Bool) (d : Data) (r s : Result Plan PlanFault) → IsPlanOf w d r → IsPlanOf w d s → r ≡ s
plan_alone w d r s x y = go (top_kind d) x y
  where
    go : (o : Option PlanKind) → UnlessFault o (IsPlanOfParts w d) r → UnlessFault o (IsPlanOfParts w d) s → r ≡ s
    go None a b = nodes_alone w d r s a b
    go (Some k) a b = a ∙ sym b

-- bytes are read as one plan alone, or as one fault
pub plans_agree : (w : Bool) (bs : List ℕ) (r s : Result Plan PlanFault) → IsSpelled w bs r → IsSpelled w bs s → r ≡ s
plans_agree w bs r s (inl x) (inl y) =
    let same : x.0 ≡ y.0 = cc (x.2, y.2) in
    plan_alone w (table x.0) r s x.3 (subst (λ (m : Members). IsPlanOf w (table m) s) (sym same) y.3)
plans_agree w bs r s (inl x) (inr y) = absurd (cc (x.2, y.0 x.1))
plans_agree w bs r s (inr x) (inl y) = absurd (cc (y.2, x.0 y.1))
plans_agree w bs r s (inr x) (inr y) = x.1 ∙ sym y.1

-- bytes spell one plan alone
pub one_plan : (bs : List ℕ) (p q : Plan) → PlanOf bs (Ok p) → PlanOf bs (Ok q) → p ≡ q
one_plan bs p q a b = cc (plans_agree true bs (Ok p) (Ok q) a b)

-- bytes with a fault spell no plan
pub no_plan : (bs : List ℕ) (f : PlanFault) (p : Plan) → PlanOf bs (Err f) → PlanOf bs (Ok p) → ⊥
no_plan bs f p a b = absurd (cc (plans_agree true bs (Err f) (Ok p) a b))
