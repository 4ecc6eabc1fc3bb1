-- A hop at which nothing is under way, and what its messages then are.
use Rattle.std.proofs.Common.{◌≡◌, ℕ, true, false, List, [], ◌∷◌, ◌++◌, refl, inl, inr}
use Rattle.std.specs.Prelude.{◌⊎◌, map, Option, Some, None}
use Rattle.ason_base.specs.{declared.messages.PathRole.PathRole, declared.messages.PathRole.TheVariants.{Work, Back}, declared.messages.Msg.Msg, declared.messages.Msg.TheVariants.{Path, Resv, PathTear, PathErr, Notify}}
use Rattle.lsp_laws.specs.HopShapes.{MsgKind, Tear, msg_kind, path_kind}
use Rattle.lsp_laws.proofs.hops.Purposes.{LabelsMeet, has_path, is_path}

-- Messages of a kind

pub no_kinds : (ms : List Msg) → map msg_kind ms ≡ [] → ms ≡ []
no_kinds [] e = refl
no_kinds (m ∷ ms) e = cc

path_is_no_tear : (r : PathRole) (kinds : List MsgKind) → path_kind r ∷ kinds ≡ Tear ∷ [] → ⊥
path_is_no_tear (Work guard) kinds e = cc
path_is_no_tear (Back true work primary) kinds e = cc
path_is_no_tear (Back false work primary) kinds e = cc

tear_has_no_path : (ms : List Msg) → map msg_kind ms ≡ Tear ∷ [] → has_path ms ≡ false
tear_has_no_path [] e = refl
tear_has_no_path (Path l e k route set up r ∷ ms) is = absurd (path_is_no_tear r (map msg_kind ms) is)
tear_has_no_path (Resv l e k x ∷ ms) is = absurd cc
tear_has_no_path (PathTear l e k ∷ ms) is =
    let last = no_kinds ms (let q : map msg_kind ms ≡ [] = cc in q) in rw last refl
tear_has_no_path (PathErr l e at true code ∷ ms) is = absurd cc
tear_has_no_path (PathErr l e at false code ∷ ms) is = absurd cc
tear_has_no_path (Notify l e at k code ∷ ms) is = absurd cc

-- where nothing is on its way, or a PathTear alone, no Path is
pub no_path_down : (ms : List Msg) → (map msg_kind ms ≡ []) ⊎ (map msg_kind ms ≡ Tear ∷ []) → has_path ms ≡ false
no_path_down ms (inl none) = rw (no_kinds ms none) refl
no_path_down ms (inr tear) = tear_has_no_path ms tear

-- Small facts

pub meets_none : (x : Option ℕ) → LabelsMeet x None
meets_none None = tt
meets_none (Some x) = tt

pub path-later : (m : Msg) (ms : List Msg) → has_path ms ≡ true → has_path (m ∷ ms) ≡ true
path-later (Path l e k route set up r) ms h = refl
path-later (Resv l e k x) ms h = h
path-later (PathTear l e k) ms h = h
path-later (PathErr l e at gone code) ms h = h
path-later (Notify l e at k code) ms h = h

pub path-append : (ms : List Msg) (m : Msg) → is_path m ≡ false → has_path (ms ++ m ∷ []) ≡ true → has_path ms ≡ true
path-append [] (Path l e k route set up r) other h = absurd (cc other)
path-append [] (Resv l e k x) other h = h
path-append [] (PathTear l e k) other h = h
path-append [] (PathErr l e at gone code) other h = h
path-append [] (Notify l e at k code) other h = h
path-append (Path l e k route set up r ∷ ms) m other h = refl
path-append (Resv l e k x ∷ ms) m other h = path-append ms m other h
path-append (PathTear l e k ∷ ms) m other h = path-append ms m other h
path-append (PathErr l e at gone code ∷ ms) m other h = path-append ms m other h
path-append (Notify l e at k code ∷ ms) m other h = path-append ms m other h
