-- What an alarm and a clear do fits.
use Rattle.std.proofs.{Common.{◌≡◌, ◌≤◌, ◌+◌, ℕ, not, List, [], ◌∷◌, ◌++◌, length, refl, arith}, ByRecursion.All-append}
use Rattle.std.specs.{Prelude.{◌&&◌, Option, Some, None}, List.AllByRecursion}
use Rattle.ason_base.specs.{Codes.{fibre_down_code, fibre_up_code}, Lsps.{has_fibre, without_fibre}, declared.codes.ErrCode.ErrCode, declared.ids.Fibre.Fibre, declared.tables.Leg.Leg, declared.tables.Out.Out}
use Rattle.mesh_rules.specs.{declared.limits.TheConstants.MOST_LEGS, declared.neighbours.Neighbour.Neighbour, Alarms.{enters, is_hit, knows_down, notice_of, notices, notify_to, on_alarm, on_clear}, Legs.previous, LocalNodes.{LocalNode, own_link}, State.NodeState}
use Rattle.mesh_nodes.specs.{FitNodes.{LegFits, NodeFits}, Sent.{AllToNeighbours, AllWritable, AnswerFits}}
use Rattle.mesh_nodes.proofs.{Cases.if_cases, Paths.nothing-fits, Stands.{OneFits, none-sent, previous-is_near}}

one-more : (a b : List Out) (n : ℕ) → length a ≤ 1 → length b ≤ n → length (a ++ b) ≤ n + 1
one-more [] b n h k = omega arith
one-more (x ∷ []) b n h k = omega arith
one-more (x ∷ y ∷ a) b n h k = absurd (omega arith)

-- what is told of the fibre f, by this code
module _ (p : LocalNode) (next : ℕ) (f : Fibre) (code : ErrCode) where
  told-one : (g : Leg) (o : Option Neighbour) → LegFits p next g → previous g ≡ o →
      OneFits p (notify_to p f code g o)
  told-one g None fits is = none-sent p
  told-one g (Some h) fits is =
      record { near = (previous-is_near p next g h fits is, tt); written = (tt, tt); few = omega arith }

  notice-fits : (g : Leg) → LegFits p next g → OneFits p (notice_of p f code g)
  notice-fits g fits =
      if_cases (OneFits p) (is_hit f g) _ _ (λ e. told-one g (previous g) fits refl) (λ e. none-sent p)

  notices-near : (legs : List Leg) → AllByRecursion (LegFits p next) legs → AllToNeighbours p (notices p f code legs)
  notices-near [] each = tt
  notices-near (g ∷ legs) each =
      All-append _ (notice_of p f code g) (notices p f code legs) (notice-fits g each.0).near
      (notices-near legs each.1)

  notices-written : (legs : List Leg) → AllByRecursion (LegFits p next) legs → AllWritable (notices p f code legs)
  notices-written [] each = tt
  notices-written (g ∷ legs) each =
      All-append _ (notice_of p f code g) (notices p f code legs) (notice-fits g each.0).written
      (notices-written legs each.1)

  notices-few : (legs : List Leg) → AllByRecursion (LegFits p next) legs →
      length (notices p f code legs) ≤ length legs
  notices-few [] each = omega arith
  notices-few (g ∷ legs) each =
      let more = one-more (notice_of p f code g) (notices p f code legs) (length legs) (notice-fits g each.0).few
      (notices-few legs each.1) in
      omega arith

module _ (p : LocalNode) (s : NodeState) (f : Fibre) (W : Type 0) (fits : NodeFits p s) where
  knows-fits : (code : ErrCode) (fibres : List Fibre) → AnswerFits p s W (knows_down p s f code fibres)
  knows-fits code fibres = record {
    kept = record { legs = fits.legs; calls = fits.calls; first = fits.first; numbers = fits.numbers };
    near = notices-near p s.lsp f code s.legs fits.legs.each;
    written = λ w. notices-written p s.lsp f code s.legs fits.legs.each;
    few = (
        let told = notices-few p s.lsp f code s.legs fits.legs.each in
        let most : length s.legs ≤ MOST_LEGS = fits.legs.few in
        omega arith
        );
  }

  pub alarm-fits : AnswerFits p s W (on_alarm p s f)
  alarm-fits =
      if_cases (AnswerFits p s W) (enters p f (own_link p f.link) && not (has_fibre s.down f)) _ _
      (λ e. knows-fits fibre_down_code (s.down ++ f ∷ [])) (λ e. nothing-fits p s W fits)

  pub clear-fits : AnswerFits p s W (on_clear p s f)
  clear-fits =
      if_cases (AnswerFits p s W) (enters p f (own_link p f.link) && has_fibre s.down f) _ _
      (λ e. knows-fits fibre_up_code (without_fibre f s.down)) (λ e. nothing-fits p s W fits)
