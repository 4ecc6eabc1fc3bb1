-- An answer fits after one that changes one leg alone.
use Rattle.std.proofs.Common.{◌≡◌, [], ◌∷◌, refl}
use Rattle.std.specs.Prelude.{Option, Some, None}
use Rattle.ason_base.specs.{declared.ids.Lsp.Lsp, declared.tables.Leg.Leg}
use Rattle.mesh_rules.specs.{declared.changes.LegChange.LegChange, Changes.{Answer, followed_by, later, nothing, puts, removes}, Legs.{leg_changed, with_leg, without_leg}, LocalNodes.LocalNode, State.NodeState}
use Rattle.mesh_rules.specs.declared.changes.LegChange.TheVariants as leg
use Rattle.mesh_nodes.specs.Sent.{AnswerFits}

pub later-none : {X : Type 0} (o : Option X) → later None o ≡ o
later-none None = refl
later-none (Some x) = refl

module _ (p : LocalNode) (s : NodeState) (W : Type 0) (a : Answer) where
  -- a leg comes, changes or goes
  after-leg : (c : LegChange) → AnswerFits p (record s { legs = leg_changed c s.legs }) W a →
      AnswerFits p s W (followed_by (record nothing { legs = c ∷ [] }) a)
  after-leg c fits = record {
    kept = rw (later-none a.numbers, later-none a.down) fits.kept;
    near = fits.near;
    written = fits.written;
    few = fits.few;
  }

  pub after-puts : (h : Leg) → AnswerFits p (record s { legs = with_leg h s.legs }) W a →
      AnswerFits p s W (followed_by (puts h []) a)
  after-puts h fits = after-leg (leg.Put h) fits

  pub after-removes : (l : Lsp) → AnswerFits p (record s { legs = without_leg l s.legs }) W a →
      AnswerFits p s W (followed_by (removes l []) a)
  after-removes l fits = after-leg (leg.Goes l) fits

-- An answer behind nothing is that answer.
pub nothing-then : (a : Answer) → followed_by nothing a ≡ a
nothing-then a = λ i. record a { numbers = later-none a.numbers i; down = later-none a.down i }
