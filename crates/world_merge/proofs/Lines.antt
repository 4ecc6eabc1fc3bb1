-- Whose the lines of a log are.
use Rattle.std.proofs.Common.{◌≡◌, true, List, [], ◌∷◌, refl}
use Rattle.std.specs.List.{AllByRecursion}
use Rattle.ason_base.specs.{declared.ids.NodeId.NodeId, declared.commands.Entry.Entry}
use Rattle.ason_base.proofs.Numbers.{self-number}
use Rattle.world_merge.specs.{Deeds.{Deed, Posted}, Logs.{log_of, posts_of}, Orders.{is_of, is_post}}

-- each line of a log is of its node
pub own-lines : (n : NodeId) (ds : List Deed) → AllByRecursion (λ (e : Entry). is_of n.0 e ≡ true) (log_of n ds)
own-lines n [] = tt
own-lines n (Posted s c ∷ ds) = own-lines n ds
own-lines n (d ∷ ds) = (self-number n.0, own-lines n ds)

-- and each post of none
pub post-lines : (n : NodeId) (ds : List Deed) → AllByRecursion (λ (e : Entry). is_post e ≡ true) (posts_of n ds)
post-lines n [] = tt
post-lines n (Posted s c ∷ ds) = (refl, post-lines n ds)
post-lines n (d ∷ ds) = post-lines n ds
