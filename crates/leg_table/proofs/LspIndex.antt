-- Entries of an index that come and go, and the first call with an LSP.
use Rattle.std.proofs.{Common.{◌≡◌, ◌≤◌, ◌+◌, ℕ, Bool, true, false, cond, not, nat_lt, List, [], ◌∷◌, refl, sym, ap, subst, ◌∙◌, arith, one-add}, lemmas.Map.Views.any-filter_same, lemmas.Bool.{or_parts, not-false}}
use Rattle.std.specs.{Prelude.{◌||◌, ◌&&◌, Option, Some, None, IsTrue, insert, slice_get}, List.position_or_len}
use Rattle.ason_base.proofs.{KeyedLists.{pairs-head, pairs-tail}, Numbers.self-number, Members.all-then}
use Rattle.ason_base.specs.{declared.ids.CallNo.CallNo, declared.ids.Lsp.Lsp}
use Rattle.leg_table.specs.{declared.lsp_index.LspOfCall.LspOfCall, LspIndexes.{IndexRises, IsFirstCall, call_there, entry_order, has_entry, is_before, is_earlier, is_entry, is_entry_from, is_same, without_entry, option_order}}
use Rattle.leg_table.proofs.{KeyedPlaces.{new-inserted, none-found, put_rises}, LspOrder.{entry-eq, from-not, same-sym}}

-- An entry more

pub entry-rises : (e : LspOfCall) (es : List LspOfCall) (n : ℕ) → IndexRises es →
    n ≡ position_or_len (is_entry_from e) es →
    has_entry e es ≡ false → IndexRises (insert es n e)
entry-rises e es n rises place new =
    subst IndexRises (sym (new-inserted entry_order (λ x. x) e es n place (none-found (is_entry e) es new)))
    (put_rises entry_order (λ x. x) e es rises)

-- An entry less

pub any-without : (k e : LspOfCall) (es : List LspOfCall) →
    has_entry e (without_entry k es) ≡ (not (is_entry k e) && has_entry e es)
any-without k e es =
    any-filter_same (is_entry e) (λ x. not (is_entry k x)) (not (is_entry k e))
    (λ x h. ap (λ y. not (is_entry k y)) (entry-eq e x h)) es

-- The first call

abbrev pub least : Lsp → LspOfCall
least l = record { lsp = Some l; call = record { 0 = 0 } }

-- what isn't before the least of an LSP has that LSP, or comes after all that have it
after-all : (l : Lsp) (x : LspOfCall) → is_entry_from (least l) x ≡ true → is_same x.lsp (Some l) ≡ false →
    is_earlier (Some l) x.lsp ≡ true
after-all l x from other =
    option_order.total x.lsp (Some l) (same-sym (Some l) x.lsp ∙ other)
    (or_parts (is_earlier x.lsp (Some l)) _ (from-not (least l) x from)).0

-- what is before the least of an LSP doesn't have it
before-other : (l : Lsp) (x : LspOfCall) → is_entry_from (least l) x ≡ false → is_same x.lsp (Some l) ≡ false
before-other l x h =
    go (is_earlier x.lsp (Some l)) (is_same x.lsp (Some l)) refl refl (not-false (is_before x (least l)) h)
  where
    never : (n : ℕ) → nat_lt n 0 ≡ false
    never n = grind arith

    go : (p s : Bool) → is_earlier x.lsp (Some l) ≡ p → is_same x.lsp (Some l) ≡ s →
        (p || (s && nat_lt x.call.0 0)) ≡ true → s ≡ false
    go p false e f less = refl
    go true true e f less =
        absurd (cc (
          subst (λ m. is_earlier m (Some l) ≡ true) (option_order.one x.lsp (Some l) f) e,
          option_order.never (Some l),
        ))
    go false true e f less = absurd (cc (less, never x.call.0))

number-after : (l : Lsp) (x y : LspOfCall) → is_same x.lsp (Some l) ≡ true → is_before x y ≡ true →
    is_same y.lsp (Some l) ≡ true → x.call.0 ≤ y.call.0
number-after l x y same less same' =
    go (is_earlier x.lsp y.lsp) (is_same x.lsp y.lsp) refl less
  where
    is : y.lsp ≡ x.lsp
    is = option_order.one y.lsp (Some l) same' ∙ sym (option_order.one x.lsp (Some l) same)

    go : (p s : Bool) → is_earlier x.lsp y.lsp ≡ p → (p || (s && nat_lt x.call.0 y.call.0)) ≡ true →
        x.call.0 ≤ y.call.0
    go true s e h =
        absurd (cc (subst (λ m. is_earlier x.lsp m ≡ true) is e, option_order.never x.lsp))
    go false true e h = grind arith
    go false false e h = absurd (cc h)

other-after : (l : Lsp) (x y : LspOfCall) → is_earlier (Some l) x.lsp ≡ true → is_before x y ≡ true →
    is_same y.lsp (Some l) ≡ false
other-after l x y later less = go (is_same y.lsp (Some l)) refl
  where
    no : is_same y.lsp (Some l) ≡ true → (p s : Bool) → is_earlier x.lsp y.lsp ≡ p → is_same x.lsp y.lsp ≡ s →
        (p || (s && nat_lt x.call.0 y.call.0)) ≡ true → ⊥
    no f true s e g h =
        let is = option_order.one y.lsp (Some l) f in
        cc (
          option_order.through (Some l) x.lsp (Some l) later (subst (λ m. is_earlier x.lsp m ≡ true) is e),
          option_order.never (Some l),
        )
    no f false true e g h =
        let is = option_order.one x.lsp y.lsp g ∙ option_order.one y.lsp (Some l) f in
        cc (subst (λ m. is_earlier (Some l) m ≡ true) is later, option_order.never (Some l))
    no f false false e g h = cc h

    go : (b : Bool) → is_same y.lsp (Some l) ≡ b → b ≡ false
    go true f = absurd (no f (is_earlier x.lsp y.lsp) (is_same x.lsp y.lsp) refl refl less)
    go false f = refl

-- the entry is the first at the place of the least, if it has the LSP
at-front : (l : Lsp) (x : LspOfCall) (xs : List LspOfCall) → IndexRises (x ∷ xs) → is_entry_from (least l) x ≡ true →
    (b : Bool) → is_same x.lsp (Some l) ≡ b → IsFirstCall l (x ∷ xs) (cond b (Some x.call) None)
at-front l x xs rises from true e = (
  rw (e, self-number x.call.0) refl,
  (
    λ h. omega arith,
    all-then _ _ xs (λ y less h. number-after l x y e less h) (pairs-head (λ a b. IsTrue (is_before a b)) x xs rises),
  ),
)
at-front l x xs rises from false e = (
  e,
  all-then _ _ xs (λ y less. other-after l x y (after-all l x from e) less)
      (pairs-head (λ a b. IsTrue (is_before a b)) x xs rises),
)

-- one that doesn't have the LSP changes nothing
behind : (l : Lsp) (x : LspOfCall) (xs : List LspOfCall) (o : Option CallNo) → is_same x.lsp (Some l) ≡ false →
    IsFirstCall l xs o → IsFirstCall l (x ∷ xs) o
behind l x xs None other first = (other, first)
behind l x xs (Some n) other first = (rw other first.0, ((λ h. absurd (cc (h, other))), first.1))

pub first-at : (l : Lsp) (es : List LspOfCall) → IndexRises es →
    IsFirstCall l es (call_there (slice_get es (position_or_len (is_entry_from (least l)) es)) l)
first-at l [] rises = tt
first-at l (x ∷ xs) rises =
    go (is_entry_from (least l) x) refl (first-at l xs (pairs-tail (λ a b. IsTrue (is_before a b)) x xs rises))
  where
    n : ℕ
    n = position_or_len (is_entry_from (least l)) xs

    go : (b : Bool) → is_entry_from (least l) x ≡ b → IsFirstCall l xs (call_there (slice_get xs n) l) →
        IsFirstCall l (x ∷ xs) (call_there (slice_get (x ∷ xs) (cond (not b) (1 + n) 0)) l)
    go true e first = at-front l x xs rises e (is_same x.lsp (Some l)) refl
    go false e first = rw (one-add n) (behind l x xs (call_there (slice_get xs n) l) (before-other l x e) first)
