-- In a round nothing is posted.
use Rattle.std.proofs.Common.{◌≡◌, Bool, true, false, [], refl, sym, ◌∙◌, append-nil}
use Rattle.ason_base.specs.Network.{is_node_id}
use Rattle.round_rules.specs.{Commands.{CutRoundsPostNothing, RoundsPostNothing}, Fleets.HasGrown, Unfinished.CameToEnd}
use Rattle.round_rules.proofs.RoundParts.{ended-part}

-- A round of all nodes.
pub rounds-post-nothing : RoundsPostNothing
rounds-post-nothing t lines before after round n = go (is_node_id t.nodes n) refl
  where
    go : (b : Bool) → is_node_id t.nodes n ≡ b → HasGrown before after n.0
    go true known =
        let f = ended-part t lines before after n (CameToEnd (round.nodes n known)) in
        record { added = f.added; all = f.all; no_post = f.no_post }
    go false other =
        record { added = []; all = round.others n other ∙ sym (append-nil (before.doings n.0)); no_post = refl }

-- One that a limit ends.
pub cut-rounds-post-nothing : CutRoundsPostNothing
cut-rounds-post-nothing t lines before after round n = go (is_node_id t.nodes n) refl
  where
    go : (b : Bool) → is_node_id t.nodes n ≡ b → HasGrown before after n.0
    go true known =
        let f = ended-part t lines before after n (round.nodes n known) in
        record { added = f.added; all = f.all; no_post = f.no_post }
    go false other =
        record { added = []; all = round.others n other ∙ sym (append-nil (before.doings n.0)); no_post = refl }
