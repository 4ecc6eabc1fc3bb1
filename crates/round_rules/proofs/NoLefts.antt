-- Doings that leave no input.
use Rattle.std.proofs.{Common.{◌≡◌, true, false, List, [], ◌∷◌, ◌++◌, ap, ◌∙◌, drop, length}, Math.Seq.drop-append_seam, lemmas.List.Folds.list_any-append}
use Rattle.std.specs.{Prelude.◌||◌, List.list_any}
use Rattle.ason_base.specs.declared.ids.NodeId.{NodeId}
use Rattle.round_rules.specs.{Doings.{Doing, Left, Waiting}, Records.Record, Unfinished.{is_left, leaves}}

abbrev pub LeavesNone : List Doing → Type 0
LeavesNone ds = list_any is_left ds ≡ false

-- where neither leaves an input, both don't
pub none-append : (xs ys : List Doing) → LeavesNone xs → LeavesNone ys → LeavesNone (xs ++ ys)
none-append xs ys f g = list_any-append is_left xs ys ∙ ap (λ b. b || list_any is_left ys) f ∙ g

-- what a node left in a round
pub leaves-added : (before after : Record) (n : NodeId) (added : List Doing) →
    after.doings n.0 ≡ before.doings n.0 ++ added → leaves before after n ≡ list_any is_left added
leaves-added before after n added all =
    ap (list_any is_left) (ap (drop (length (before.doings n.0))) all ∙ drop-append_seam (before.doings n.0) added)

-- an input is left last
pub left-last : (ds : List Doing) (w : Waiting) → LeavesNone ds → list_any is_left (ds ++ Left w ∷ []) ≡ true
left-last ds w f = list_any-append is_left ds (Left w ∷ []) ∙ ap (λ b. b || true) f
