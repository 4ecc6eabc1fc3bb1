-- What a viewer reads.
use Rattle.std.proofs.Common.{◌≡◌, ◌≤◌, ◌∙◌, true, false, List, length, subst, sym, inr}
use Rattle.std.specs.Prelude.{Some}
use Rattle.mgmt_view.specs.{Tables.{EndsWith, StartsWith}, Viewing.{HasLearntLast, HasReadTable, ViewerState}, declared.node_table.NodeTable.NodeTable}
use Rattle.mgmt_view.proofs.Growing.{same-length}

-- two tables that stand last are one
pub one-last : (all : List NodeTable) (t u : NodeTable) → EndsWith all t → EndsWith all u → t ≡ u
one-last all t u one two = let same : Some t ≡ Some u = sym one ∙ two in cc (same)

-- the last of the published tables is read and kept
pub read-next : (old new : ViewerState) (t : NodeTable) → new.kept ≡ t → old.count ≤ new.count →
    new.told ≡ old.told → StartsWith new.seen old.seen → EndsWith new.seen t → new.count ≡ length new.seen →
    StartsWith new.seen old.told →
    (old.is_new ≡ true → EndsWith old.told old.kept) → (old.is_new ≡ true → old.count ≡ length old.told) →
    (old.is_new ≡ true → new.count ≡ old.count) → new.is_new ≡ false → HasReadTable old new t
read-next old new t kept rises told seen last count known learnt counted same since = record {
  kept = kept;
  rises = rises;
  told = told;
  seen = seen;
  table = inr (record { last = last; count = count; told = subst (λ all. StartsWith new.seen all) (sym told) known });
  exact = λ fresh.
      let one : new.seen ≡ old.told =
      same-length new.seen old.told known (sym count ∙ (same fresh ∙ counted fresh)) in
      one-last old.told t old.kept (subst (λ all. EndsWith all t) one last) (learnt fresh);
  since = since;
}

-- right behind the last token the last table of which it tells is read
pub last-read : (old learnt new : ViewerState) (tables : List NodeTable) (t : NodeTable) →
    HasLearntLast old tables learnt → HasReadTable learnt new t → EndsWith tables t
last-read old learnt new tables t is read = subst (EndsWith tables) (sym (read.exact is.fresh)) is.last
