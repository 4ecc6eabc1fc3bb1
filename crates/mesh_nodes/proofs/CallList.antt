-- The calls of a node: which call is found, and their order, after a call comes, changes or goes.
use Rattle.std.proofs.{Common.{◌≡◌, ◌<◌, Bool, true, false, cond, not, nat_lt, nat_eq, List, [], ◌∷◌, length, refl, sym, ap, subst, ◌∙◌, arith}, lemmas.List.Sums.length-filter}
use Rattle.std.specs.{Prelude.{Some, None, filter}, List.{AllByRecursion, count_by}}
use Rattle.ason_base.specs.{declared.ids.CallNo.CallNo, declared.ids.Lsp.Lsp, declared.tables.CallRec.CallRec, InOrder.IsKeyOrder}
use Rattle.ason_base.proofs.{KeyOrder.{by_key, number_order}, Numbers.self-number, Finding.found-of_all}
use Rattle.ason_base.proofs.KeyedLists as keyed
use Rattle.mesh_rules.specs.Calls.{call_with, earlier_call, find_call, names, same_call, with_call, without_call}
use Rattle.mesh_nodes.specs.Order.{CallsRise}

-- Numbers

pub call_order : IsKeyOrder same_call earlier_call
call_order = by_key (λ (n : CallNo). n.0) (λ n. record { 0 = n }) (λ n. refl) number_order

below-test : (c d : CallRec) → c.call.0 < d.call.0 → nat_lt c.call.0 d.call.0 ≡ true
below-test c d h = grind arith

test-below : (c d : CallRec) → nat_lt c.call.0 d.call.0 ≡ true → c.call.0 < d.call.0
test-below c d h = grind arith

-- Finding

pub found-number : (k : CallNo) (calls : List CallRec) (c : CallRec) → find_call k calls ≡ Some c → c.call ≡ k
found-number k calls c found = keyed.found-key call_order (λ (d : CallRec). d.call) k calls c found

pub found-call-all : (P : CallRec → Type 0) (k : CallNo) (calls : List CallRec) (c : CallRec) →
    find_call k calls ≡ Some c → AllByRecursion P calls → P c
found-call-all P k calls c found all = found-of_all P (λ d. same_call d.call k) calls c found all

pub find-with_call : (c : CallRec) (calls : List CallRec) (m : CallNo) →
    find_call m (with_call c calls) ≡ cond (nat_eq c.call.0 m.0) (Some c) (find_call m calls)
find-with_call c calls m = keyed.find-put call_order (λ (d : CallRec). d.call) c calls m

pub find-without_call : (k : CallNo) (calls : List CallRec) (m : CallNo) →
    find_call m (without_call k calls) ≡ cond (nat_eq k.0 m.0) None (find_call m calls)
find-without_call k calls m = keyed.find-without call_order (λ (d : CallRec). d.call) k calls m

-- Order

pub all-with_call : (P : CallRec → Type 0) (c : CallRec) (calls : List CallRec) → P c → AllByRecursion P calls →
    AllByRecursion P (with_call c calls)
all-with_call P c calls here all = keyed.all-put call_order (λ (d : CallRec). d.call) P c calls here all

pub rise-with_call : (c : CallRec) (calls : List CallRec) → CallsRise calls → CallsRise (with_call c calls)
rise-with_call c calls rise =
    keyed.rise-put call_order (λ (d : CallRec). d.call) (λ c d. c.call.0 < d.call.0) below-test test-below c calls rise

pub rise-without_call : (k : CallNo) (calls : List CallRec) → CallsRise calls → CallsRise (without_call k calls)
rise-without_call k calls rise =
    keyed.rise-filter (λ c d. c.call.0 < d.call.0) (λ c. not (same_call c.call k)) calls rise

found-below : (d : CallRec) (calls : List CallRec) (k : CallNo) (c : CallRec) →
    AllByRecursion (λ x. d.call.0 < x.call.0) calls → find_call k calls ≡ Some c → find_call k (d ∷ calls) ≡ Some c
found-below d calls k c above found =
    keyed.found-below call_order (λ (d : CallRec). d.call) (λ c d. c.call.0 < d.call.0) below-test test-below d calls k
    c above found

-- what holds of each call that is found holds of all
pub all-calls_found : (P : CallRec → Type 0) (calls : List CallRec) → CallsRise calls →
    ((k : CallNo) (c : CallRec) → find_call k calls ≡ Some c → P c) → AllByRecursion P calls
all-calls_found P calls rise each =
    keyed.all-found call_order (λ (d : CallRec). d.call) (λ c d. c.call.0 < d.call.0) below-test test-below P calls
    rise each

-- The call of an LSP

-- the call of an LSP is found by its number
pub called-found : (l : Lsp) (calls : List CallRec) (c : CallRec) → CallsRise calls → call_with l calls ≡ Some c →
    find_call c.call calls ≡ Some c
called-found l [] c rise called = cc
called-found l (d ∷ calls) c rise called =
    elim (names l d) as (λ b. cond b (Some d) (call_with l calls) ≡ Some c →
    find_call c.call (d ∷ calls) ≡ Some c) [
      | true ↦ λ e. let is : d ≡ c = cc in subst (λ x. find_call x.call (d ∷ calls) ≡ Some x) is
          (rw (self-number d.call.0) refl)
      | false ↦ λ e. found-below d calls c.call c rise.0 (called-found l calls c rise.1 e)
    ] called

pub called-names : (l : Lsp) (calls : List CallRec) (c : CallRec) → call_with l calls ≡ Some c → names l c ≡ true
called-names l [] c called = cc
called-names l (d ∷ calls) c called =
    elim (names l d) as (λ b. names l d ≡ b → cond b (Some d) (call_with l calls) ≡ Some c → names l c ≡ true) [
      | true ↦ λ e f. let is : d ≡ c = cc in subst (λ x. names l x ≡ true) is e
      | false ↦ λ e f. called-names l calls c f
    ] refl called

pub not_called : (l : Lsp) (calls : List CallRec) (k : CallNo) (c : CallRec) → call_with l calls ≡ None →
    find_call k calls ≡ Some c → names l c ≡ true → ⊥
not_called l [] k c called found named = cc
not_called l (d ∷ calls) k c called found named =
    go (λ f g. not_called l calls k c f g named) (names l d) (nat_eq d.call.0 k.0) refl called found
  where
    go : (call_with l calls ≡ None → find_call k calls ≡ Some c → ⊥) → (a b : Bool) → names l d ≡ a →
        cond a (Some d) (call_with l calls) ≡ None → cond b (Some d) (find_call k calls) ≡ Some c → ⊥
    go later true b e f g = cc f
    go later false true e f g =
        let is : d ≡ c = cc g in let named' : names l d ≡ true = subst (λ x. names l x ≡ true) (sym is) named in
        cc (e, named')
    go later false false e f g = later f g

-- How many calls have the LSP

none-filtered : (p : CallRec → Bool) (calls : List CallRec) → AllByRecursion (λ c. p c ≡ false) calls →
    length (filter p calls) ≡ 0
none-filtered p [] each = refl
none-filtered p (d ∷ calls) each = rw (each.0, none-filtered p calls each.1) refl

-- where all calls that pass are one, there is one of them
one-filtered : (p : CallRec → Bool) (calls : List CallRec) (k : CallNo) (c : CallRec) → CallsRise calls →
    find_call k calls ≡ Some c → p c ≡ true →
    ((m : CallNo) (d : CallRec) → find_call m calls ≡ Some d → p d ≡ true → m ≡ k) → length (filter p calls) ≡ 1
one-filtered p [] k c rise found passes one = cc
one-filtered p (d ∷ calls) k c rise found passes one =
    go (λ below. one-filtered p calls k c rise.1 below passes (λ m x f. one m x (found-below d calls m x rise.0 f)))
    (p d) refl
  where
    go : (find_call k calls ≡ Some c → length (filter p calls) ≡ 1) → (b : Bool) → p d ≡ b →
        length (filter p (d ∷ calls)) ≡ 1
    go later true e =
        let first : d.call ≡ k = one d.call d (rw (self-number d.call.0) refl) e in
        let others : AllByRecursion (λ x. p x ≡ false) calls =
        all-calls_found (λ x. p x ≡ false) calls rise.1 (λ m x f. other first m x f (p x) refl) in
        rw (e, none-filtered p calls others) refl
      where
        other : d.call ≡ k → (m : CallNo) (x : CallRec) → find_call m calls ≡ Some x → (b : Bool) → p x ≡ b → b ≡ false
        other first m x f true px =
            let is : m ≡ k = one m x (found-below d calls m x rise.0 f) px in
            let number = found-number m calls x f in
            let less : d.call.0 < x.call.0 = found-call-all (λ x. d.call.0 < x.call.0) m calls x f rise.0 in
            let same_number : x.call.0 ≡ d.call.0 = ap (λ x. x.0) (number ∙ is ∙ sym first) in
            absurd (omega arith)
        other first m x f false px = refl
    go later false e = rw e (later below)
      where
        below : find_call k calls ≡ Some c
        below = elim (nat_eq d.call.0 k.0) as (λ b. cond b (Some d) (find_call k calls) ≡ Some c →
            find_call k calls ≡ Some c) [
              | true ↦ λ f. let is : d ≡ c = cc in let no : p d ≡ true =
                  subst (λ x. p x ≡ true) (sym is) passes in absurd (cc (e, no))
              | false ↦ λ f. f
            ] found

pub one-count : (p : CallRec → Bool) (calls : List CallRec) (k : CallNo) (c : CallRec) → CallsRise calls →
    find_call k calls ≡ Some c → p c ≡ true →
    ((m : CallNo) (d : CallRec) → find_call m calls ≡ Some d → p d ≡ true → m ≡ k) → count_by p calls ≡ 1
one-count p calls k c rise found passes one =
    sym (length-filter p calls) ∙ one-filtered p calls k c rise found passes one
