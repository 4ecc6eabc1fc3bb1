-- Entries that are posts.
use Rattle.std.specs.Prelude.{Some, Option, None}
use Rattle.std.proofs.Common.{ℕ, false, true, refl, ◌≡◌}
use Rattle.ason_base.specs.{declared.commands.Entry.Entry, declared.ids.NodeId.NodeId}
use Rattle.world_merge.specs.Orders.{is_no_node, is_at_node, is_of, is_post}

-- An entry that is a post is of no node.
pub post_of_none : (n : ℕ) (e : Entry) → is_post e ≡ true → is_of n e ≡ false
post_of_none n e h = go e.node h
  where
    go : (o : Option NodeId) → is_no_node o ≡ true → is_at_node n o ≡ false
    go None h = refl
    go (Some m) h = absurd (cc (h))
