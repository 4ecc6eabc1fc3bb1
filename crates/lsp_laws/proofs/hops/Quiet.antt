-- A rule's answer that changes no leg and sends nothing leaves every LSP as it was.
use Rattle.std.proofs.Common.{◌≡◌, Bool, true, false, nat_eq, refl, ◌∙◌, arith, append-nil}
use Rattle.ason_base.specs.{declared.ids.Lsp.Lsp, declared.ids.NodeId.NodeId}
use Rattle.mesh_rules.specs.{Changes.Answer, Machine.{Mesh, commit}}
use Rattle.lsp_laws.specs.HopLaw.{leg_at, mail_between}
use Rattle.lsp_laws.proofs.{hops.Views.{leg-here, mail-from, notices-plain}, hops.Own.IsQuietAnswer, hops.Planned.{SameOf, next_same}}

pub same_quiet : (s : Mesh) (n : NodeId) (a : Answer) (l : Lsp) → IsQuietAnswer a → SameOf s (commit s n.0 a) l
same_quiet s n a l quiet = record {
  still = record {
    legs = λ m. leg m (nat_eq m.0 n.0) refl;
    mail = λ x b. mail x b (nat_eq x.0 n.0) refl;
    next = (let e = next_same s n.0 l.ingress.0 a quiet.numbers in omega arith);
  };
  notices = λ x b. notices-plain s n x b l a (rw quiet.sent tt);
}
  where
    leg : (m : NodeId) (b : Bool) → nat_eq m.0 n.0 ≡ b → leg_at (commit s n.0 a) l m ≡ leg_at s l m
    leg m true e = let is : m.0 ≡ n.0 = grind arith in rw is (leg-here s n l a ∙ rw quiet.legs refl)
    leg m false e = rw e refl

    mail : (x b : NodeId) (c : Bool) → nat_eq x.0 n.0 ≡ c → mail_between (commit s n.0 a) l x b ≡ mail_between s l x b
    mail x b true e = let is : x.0 ≡ n.0 = grind arith in rw is (mail-from s n b l a ∙ rw (quiet.sent, append-nil) refl)
    mail x b false e = rw e refl
