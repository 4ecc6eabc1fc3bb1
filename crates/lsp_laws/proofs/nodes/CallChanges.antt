-- What holds of each call that a rule puts in the place of another, and of each that goes.
use Rattle.std.proofs.Common.{◌≡◌, List, [], ◌∷◌, ◌++◌, subst}
use Rattle.std.specs.{Prelude.{Some, None}, List.AllByRecursion}
use Rattle.ason_base.specs.{declared.ids.CallNo.CallNo, declared.ids.Fibre.Fibre, declared.ids.Lsp.Lsp, declared.tables.CallRec.CallRec}
use Rattle.mesh_rules.specs.{declared.changes.CallChange.TheVariants.{Goes, Put}, declared.changes.CallChange.CallChange, Calls.{call_changed, calls_changed, find_call, with_call, without_call}}
use Rattle.mesh_nodes.proofs.CallList.{find-with_call, find-without_call}
use Rattle.lsp_laws.proofs.nodes.CallParts.{found-call}

-- Calls that change

abbrev IsChange : (CallNo → Type 0) → (CallRec → Type 0) → CallChange → Type 0
IsChange G P (Goes k) = G k
IsChange G P (Put c) = P c

-- so it is with the calls that go, and with those that are put in their places
abbrev pub AreChanges : (CallNo → Type 0) → (CallRec → Type 0) → List CallChange → Type 0
AreChanges G P cs = AllByRecursion (IsChange G P) cs

-- any fibre may be reported of any LSP
abbrev pub OfAny : Lsp → Fibre → Type 0
OfAny l f = Unit {0}

-- any call may go
abbrev pub MayGo : CallNo → Type 0
MayGo k = Unit {0}

abbrev pub ArePut : (CallRec → Type 0) → List CallChange → Type 0
ArePut P cs = AreChanges MayGo P cs

abbrev pub EachCall : (CallRec → Type 0) → List CallRec → Type 0
EachCall P calls = (k : CallNo) (c : CallRec) → find_call k calls ≡ Some c → P c

each-change : (P : CallRec → Type 0) (x : CallChange) (calls : List CallRec) → IsChange MayGo P x → EachCall P calls →
    EachCall P (call_changed x calls)
each-change P (Goes m) calls here each k d found =
    found-call (P d) m k None d calls (without_call m calls) (find-without_call m calls) found
    (λ e is. absurd (cc is)) (λ e there. each k d there)
each-change P (Put c) calls here each k d found =
    found-call (P d) c.call k (Some c) d calls (with_call c calls) (find-with_call c calls) found
    (λ e is. let one : c ≡ d = cc is in subst P one here) (λ e there. each k d there)

pub each-after : (P : CallRec → Type 0) (cs : List CallChange) (calls : List CallRec) → ArePut P cs →
    EachCall P calls → EachCall P (calls_changed cs calls)
each-after P [] calls here each = each
each-after P (x ∷ cs) calls here each =
    each-after P cs (call_changed x calls) here.1 (each-change P x calls here.0 each)

-- of the calls of one part, and of those of another
pub put-both : (G : CallNo → Type 0) (P : CallRec → Type 0) (cs ds : List CallChange) → AreChanges G P cs →
    AreChanges G P ds → AreChanges G P (cs ++ ds)
put-both G P [] ds here these = these
put-both G P (x ∷ cs) ds here these = (here.0, put-both G P cs ds here.1 these)
