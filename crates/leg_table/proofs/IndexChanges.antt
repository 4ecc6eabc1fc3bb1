-- An index after the LSP of a call comes, goes or changes.
use Rattle.std.proofs.Common.{◌≡◌, Bool, true, false, cond, not, nat_eq, List, refl, ap, ◌∙◌, eqb-true}
use Rattle.std.specs.Prelude.{◌||◌, ◌&&◌, Option}
use Rattle.ason_base.specs.{declared.ids.CallNo.CallNo, declared.ids.Lsp.Lsp}
use Rattle.ason_base.proofs.Numbers.{number-turned}
use Rattle.leg_table.specs.{declared.lsp_index.LspOfCall.LspOfCall, LspIndexes.{HasJust, HasNoEntry, IndexRises, IsSet, IsTakenOff, has_entry, is_entry, is_same, without_entry, option_order}}
use Rattle.leg_table.proofs.{LspIndex.any-without, LspOrder.same-sym}

pub of-call : (e : LspOfCall) (n : CallNo) → nat_eq e.call.0 n.0 ≡ true → e ≡ record { lsp = e.lsp; call = n }
of-call e n h =
    let p : e.call.0 ≡ n.0 = eqb-true e.call.0 n.0 h in
    λ i. record { lsp = e.lsp; call = record { 0 = p i } }

-- the call had none
pub set-new : (x : LspOfCall) (es after : List LspOfCall) → HasNoEntry x.call es → IndexRises after →
    ((e : LspOfCall) → has_entry e after ≡ (is_entry e x || has_entry e es)) → IsSet x.call x.lsp es after
set-new x es after none rises has = record {
  rises = rises;
  entries = λ e. has e ∙ go e (nat_eq e.call.0 x.call.0) refl;
}
  where
    alone : (b : Bool) → (b && true || false) ≡ b
    alone true = refl
    alone false = refl

    other : (b : Bool) → (b && false) ≡ false
    other true = refl
    other false = refl

    go : (e : LspOfCall) (b : Bool) → nat_eq e.call.0 x.call.0 ≡ b →
        (is_same x.lsp e.lsp && nat_eq x.call.0 e.call.0 || has_entry e es)
        ≡ cond b (is_same x.lsp e.lsp) (has_entry e es)
    go e true h =
        let gone : has_entry e es ≡ false = ap (λ y. has_entry y es) (of-call e x.call h) ∙ none e.lsp in
        rw (number-turned x.call.0 e.call.0, h, gone) (alone (is_same x.lsp e.lsp))
    go e false h = rw (number-turned x.call.0 e.call.0, h, other (is_same x.lsp e.lsp)) refl

-- the call had just this one
pub taken-off : (x : LspOfCall) (es : List LspOfCall) → HasJust x.call x.lsp es → IndexRises (without_entry x es) →
    IsTakenOff x.call es (without_entry x es)
taken-off x es just rises = record {
  rises = rises;
  entries = λ e. any-without x e es ∙ go e (nat_eq e.call.0 x.call.0) refl;
}
  where
    never : (b : Bool) → (not (b && true) && b) ≡ false
    never true = refl
    never false = refl

    other : (b c : Bool) → (not (b && false) && c) ≡ c
    other true c = refl
    other false c = refl

    go : (e : LspOfCall) (b : Bool) → nat_eq e.call.0 x.call.0 ≡ b →
        (not (is_same e.lsp x.lsp && nat_eq e.call.0 x.call.0) && has_entry e es) ≡ cond b false (has_entry e es)
    go e true h =
        let here : has_entry e es ≡ is_same e.lsp x.lsp =
        ap (λ y. has_entry y es) (of-call e x.call h) ∙ just e.lsp ∙ same-sym x.lsp e.lsp in
        rw (h, here) (never (is_same e.lsp x.lsp))
    go e false h = rw h (other (is_same e.lsp x.lsp) (has_entry e es))

pub set-same : (n : CallNo) (k l : Option Lsp) (es : List LspOfCall) → IndexRises es → HasJust n k es →
    is_same k l ≡ true → IsSet n l es es
set-same n k l es rises just same = record {
  rises = rises;
  entries = λ e. go e (nat_eq e.call.0 n.0) refl;
}
  where
    go : (e : LspOfCall) (b : Bool) → nat_eq e.call.0 n.0 ≡ b →
        has_entry e es ≡ cond b (is_same l e.lsp) (has_entry e es)
    go e true h =
        ap (λ y. has_entry y es) (of-call e n h) ∙ just e.lsp ∙ ap (λ m. is_same m e.lsp) (option_order.one k l same)
    go e false h = refl

pub just-there : (x : LspOfCall) (es : List LspOfCall) → HasJust x.call x.lsp es → has_entry x es ≡ true
just-there x es just = just x.lsp ∙ option_order.itself x.lsp

pub nothing-off : (n : CallNo) (es : List LspOfCall) → IndexRises es → HasNoEntry n es → IsTakenOff n es es
nothing-off n es rises none = record {
  rises = rises;
  entries = λ e. go e (nat_eq e.call.0 n.0) refl;
}
  where
    go : (e : LspOfCall) (b : Bool) → nat_eq e.call.0 n.0 ≡ b → has_entry e es ≡ cond b false (has_entry e es)
    go e true h = ap (λ y. has_entry y es) (of-call e n h) ∙ none e.lsp
    go e false h = refl
