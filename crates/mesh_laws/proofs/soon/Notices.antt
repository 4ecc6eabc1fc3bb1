-- What Notifies tell of a fibre: where at last it is known to be down, one of them says so.
use Rattle.std.proofs.Common.{◌≡◌, ◌<◌, ◌⊎◌, ℕ, zero, suc, Bool, true, false, cond, nat_eq, List, [], ◌∷◌, ◌++◌, refl, ap, arith, inl, inr}
use Rattle.std.specs.Prelude.{◌&&◌, Option, Some, None}
use Rattle.ason_base.specs.{declared.codes.ErrCode.ErrCode, declared.ids.LinkId.LinkId, declared.ids.Lsp.Lsp, declared.ids.NodeId.NodeId, declared.messages.Msg.Msg, declared.messages.Msg.TheVariants.{Path, Resv, PathTear, PathErr, Notify}}
use Rattle.ason_base.proofs.JoinedEnds.{same-node}
use Rattle.mesh_rules.specs.Reports.{reported}
use Rattle.mesh_nodes.proofs.LegList.{same_lsp-eq}
use Rattle.lsp_laws.specs.{HopLaw.{is_notice_of, notices_of}, ReportLaw.{told_list, on_the_way, told, told_by, told_by_all}}
use Rattle.mesh_laws.proofs.soon.Swept.{StandsIn}

-- a Notify of the LSP w which tells that the fibre that comes in at n over the link k is down
pub record Reports (w : Lsp) (n : NodeId) (k : LinkId) (m : Msg) : Type 0 where
  pub egress : NodeId
  pub code : ErrCode
  pub is : m ≡ Notify w egress n k code
  pub down : reported code ≡ Some true

-- one of these is true
abbrev pub HasTrue : List Bool → Type 0
HasTrue [] = ⊥
HasTrue (b ∷ bs) = (b ≡ true) ⊎ HasTrue bs

-- where at last something is told to be down, it was known, or one of what was told says so
pub told-true : (known : Bool) (xs : List Bool) → told known xs ≡ true → (known ≡ true) ⊎ HasTrue xs
told-true known [] e = inl e
told-true known (x ∷ xs) e = elim (told-true x xs e) [
  | inl is ↦ inr (inl is)
  | inr later ↦ inr (inr later)
]

has-either : (xs ys : List Bool) → HasTrue (xs ++ ys) → HasTrue xs ⊎ HasTrue ys
has-either [] ys has = inr has
has-either (x ∷ xs) ys (inl is) = inl (inl is)
has-either (x ∷ xs) ys (inr later) = elim (has-either xs ys later) [
  | inl one ↦ inl (inr one)
  | inr two ↦ inr two
]

-- and that is on some hop
pub on-some : (line : ℕ → List Bool) (i : ℕ) → HasTrue (on_the_way line i) → (j : ℕ) × (j < i) × HasTrue (line j)
on-some line zero has = absurd has
on-some line (suc i) has = elim (has-either (on_the_way line i) (line i) has) [
  | inl nearer ↦ (let one = on-some line i nearer in (one.0, omega (arith, one.1), one.2))
  | inr here ↦ (i, omega arith, here)
]

-- in a list of messages
pub record FoundReport (w : Lsp) (n : NodeId) (k : LinkId) (ms : List Msg) : Type 0 where
  pub msg : Msg
  pub reports : Reports w n k msg
  pub before : List Msg
  pub stands : StandsIn ms msg before

listed-true : (o : Option Bool) → HasTrue (told_list o) → o ≡ Some true
listed-true None has = absurd has
listed-true (Some b) (inl is) = ap Some is
listed-true (Some b) (inr none) = absurd none

reports-of : (w : Lsp) (n : NodeId) (k : LinkId) (m : Msg) → is_notice_of w m ≡ true → HasTrue (told_by n k m) →
    Reports w n k m
reports-of w n k (Path l e link route set up r) own has = absurd has
reports-of w n k (Resv l e link x) own has = absurd has
reports-of w n k (PathTear l e link) own has = absurd has
reports-of w n k (PathErr l e at gone code) own has = absurd has
reports-of w n k (Notify l e at link code) own has =
    go (nat_eq at.0 n.0) (nat_eq link.0 k.0) refl refl has
  where
    go : (a b : Bool) → nat_eq at.0 n.0 ≡ a → nat_eq link.0 k.0 ≡ b →
        HasTrue (cond (a && b) (told_list (reported code)) []) → Reports w n k (Notify l e at link code)
    go true true p q has =
        let lsp : l ≡ w = same_lsp-eq l w own in
        let at-node : at.0 ≡ n.0 = grind arith in
        let node : at ≡ n = same-node at n at-node in
        let at-link : link.0 ≡ k.0 = grind arith in
        let over : link ≡ k = (λ i. record { 0 = at-link i }) in
        record {
          egress = e;
          code = code;
          is = λ i. Notify (lsp i) e (node i) (over i) code;
          down = listed-true (reported code) has;
        }
    go true false p q has = absurd has
    go false b p q has = absurd has

-- one that tells so is found there
pub find-report : (w : Lsp) (n : NodeId) (k : LinkId) (ms : List Msg) → HasTrue (told_by_all n k (notices_of w ms)) →
    FoundReport w n k ms
find-report w n k [] has = absurd has
find-report w n k (m ∷ ms) has = go (is_notice_of w m) refl has (λ later. find-report w n k ms later)
  where
    behind : FoundReport w n k ms → FoundReport w n k (m ∷ ms)
    behind f = record {
      msg = f.msg;
      reports = f.reports;
      before = m ∷ f.before;
      stands = record { later = f.stands.later; all = ap (λ xs. m ∷ xs) f.stands.all };
    }

    go : (b : Bool) → is_notice_of w m ≡ b →
        HasTrue (told_by_all n k (cond b (m ∷ notices_of w ms) (notices_of w ms))) →
        (HasTrue (told_by_all n k (notices_of w ms)) → FoundReport w n k ms) → FoundReport w n k (m ∷ ms)
    go true own has again = elim (has-either (told_by n k m) (told_by_all n k (notices_of w ms)) has) [
      | inl here ↦ record {
        msg = m;
        reports = reports-of w n k m own here;
        before = [];
        stands = record { later = ms; all = refl };
      }
      | inr later ↦ behind (again later)
    ]
    go false own has again = behind (again has)
