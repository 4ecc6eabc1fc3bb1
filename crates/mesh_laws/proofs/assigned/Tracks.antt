-- The call of a working LSP that is set up alone: it asks, stands, or is blocked.
use Rattle.std.proofs.Common.{◌≡◌, Bool, true, false, cond, nat_eq, List, [], ◌∷◌, refl, sym, ap, ◌∙◌, arith, inl, inr}
use Rattle.std.specs.Prelude.{◌⊎◌, Some, None}
use Rattle.ason_base.specs.{declared.calls.CallState.CallState, declared.calls.CallState.TheVariants.{Asking, Bare, Blocked}, declared.calls.Cause.Cause, declared.ids.CallNo.CallNo, declared.ids.Lsp.Lsp, declared.messages.Msg.Msg, declared.messages.Msg.TheVariants.{Path, Resv, PathTear, PathErr, Notify}, declared.tables.CallRec.CallRec}
use Rattle.mesh_rules.specs.{declared.changes.CallChange.CallChange, declared.changes.CallChange.TheVariants.Put, Calls.{bare, blocked, call_with, calls_changed, find_call, names, with_call}}
use Rattle.mesh_nodes.specs.Order.{CallsRise}
use Rattle.mesh_nodes.proofs.CallList.{called-found, called-names, find-with_call, found-number}
use Rattle.lsp_laws.proofs.nodes.CallParts.{named-by}
use Rattle.mesh_laws.proofs.retried.Going.{put-there}

-- a refusal
abbrev pub IsErr : Msg → Type 0
IsErr (Path l e k route set up r) = ⊥
IsErr (Resv l e k x) = ⊥
IsErr (PathTear l e k) = ⊥
IsErr (PathErr l e at gone code) = Unit {0}
IsErr (Notify l e at k code) = ⊥

-- the call asks, or stands, or is blocked where R
pub data IsPlain (R : Type 0) : CallState → Type 0 where
  IsAsking : IsPlain R Asking
  IsBare : IsPlain R Bare
  IsRefused : R → IsPlain R Blocked

-- the call of the LSP, unprotected, at its ingress
pub record Tracks (R : Type 0) (l : Lsp) (k : CallNo) (calls : List CallRec) : Type 0 where
  pub call : CallRec
  pub found : find_call k calls ≡ Some call
  pub plain : IsPlain R call.state
  pub unprotected : call.protected ≡ false
  pub alone : call.back ≡ None
  pub work : (call.state ≡ Blocked) ⊎ (call.work ≡ Some l)
  pub only : (m : CallNo) (c : CallRec) → find_call m calls ≡ Some c → names l c ≡ true → c ≡ call

-- no call changes; or that of the LSP, which asks, stands or is blocked now
pub data CallStep (R : Type 0) (l : Lsp) (calls : List CallRec) : List CallChange → Type 0 where
  Stays : CallStep R l calls []
  Connects : (c : CallRec) → call_with l calls ≡ Some c → CallStep R l calls (Put (bare c) ∷ [])
  IsRefusedBy : (c : CallRec) (cause : Cause) → R → call_with l calls ≡ Some c →
      CallStep R l calls (Put (blocked c cause) ∷ [])

put-tracks : (R : Type 0) (l : Lsp) (k : CallNo) (calls : List CallRec) → Tracks R l k calls → (d : CallRec) → d.call ≡ k →
    IsPlain R d.state → d.protected ≡ false → d.back ≡ None → (d.state ≡ Blocked) ⊎ (d.work ≡ Some l) →
    Tracks R l k (with_call d calls)
put-tracks R l k calls old d number plain unprotected alone work = record {
  call = d;
  found = put-there k d calls number;
  plain = plain;
  unprotected = unprotected;
  alone = alone;
  work = work;
  only = λ m c found named. go m c named (nat_eq d.call.0 m.0) refl (sym (find-with_call d calls m) ∙ found);
}
  where
    go : (m : CallNo) (c : CallRec) → names l c ≡ true → (b : Bool) → nat_eq d.call.0 m.0 ≡ b →
        cond b (Some d) (find_call m calls) ≡ Some c → c ≡ d
    go m c named true e is = sym (cc is)
    go m c named false e is =
        let one : c ≡ old.call = old.only m c is named in
        let at : m ≡ k = sym (found-number m calls c is) ∙ ap (λ (x : CallRec). x.call) one
        ∙ found-number k calls old.call old.found in
        absurd (let same : d.call.0 ≡ m.0 = ap (λ (x : CallNo). x.0) (number ∙ sym at) in grind arith)

pub the-one : (R : Type 0) (l : Lsp) (k : CallNo) (calls : List CallRec) → CallsRise calls → (old : Tracks R l k calls) → (c : CallRec) →
    call_with l calls ≡ Some c → c ≡ old.call
the-one R l k calls rise old c called =
    old.only c.call c (called-found l calls c rise called) (called-names l calls c called)

work-named : (l : Lsp) (c : CallRec) → c.back ≡ None → names l c ≡ true → c.work ≡ Some l
work-named l c alone named = elim (named-by c l named) [
  | inl work ↦ work
  | inr back ↦ absurd (cc (alone, back))
]

-- After such a step it is the call of the LSP still.
pub tracks-on : (R : Type 0) (l : Lsp) (k : CallNo) (calls : List CallRec) → CallsRise calls → Tracks R l k calls →
    (cs : List CallChange) → CallStep R l calls cs → Tracks R l k (calls_changed cs calls)
tracks-on R l k calls rise old _ Stays = old
tracks-on R l k calls rise old _ (Connects c called) =
    let one = the-one R l k calls rise old c called in
    put-tracks R l k calls old (bare c) (ap (λ (x : CallRec). x.call) one ∙ found-number k calls old.call old.found) IsBare
    (ap (λ (x : CallRec). x.protected) one ∙ old.unprotected) (ap (λ (x : CallRec). x.back) one ∙ old.alone)
    (inr (work-named l c (ap (λ (x : CallRec). x.back) one ∙ old.alone) (called-names l calls c called)))
tracks-on R l k calls rise old _ (IsRefusedBy c cause may called) =
    let one = the-one R l k calls rise old c called in
    put-tracks R l k calls old (blocked c cause)
    (ap (λ (x : CallRec). x.call) one ∙ found-number k calls old.call old.found) (IsRefused may)
    (ap (λ (x : CallRec). x.protected) one ∙ old.unprotected) (ap (λ (x : CallRec). x.back) one ∙ old.alone) (inl refl)
