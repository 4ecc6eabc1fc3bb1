-- The head that is picked is the next line, and the merge goes on without it.
use Rattle.std.proofs.{Common.{◌≡◌, ◌<◌, List, ◌∷◌, Some, length, slice_set, sym, ap, subst, ◌∙◌, arith}, lemmas.List.map-set}
use Rattle.std.specs.Borrow.{Bor}
use Rattle.ason_base.specs.{declared.commands.Entry.Entry, declared.commands.EntryRef.EntryRef}
use Rattle.world_merge.specs.{declared.heads.Head.Head, Heads.{picked_at, without_head}, Lines.{lent_line, lists_of}, Picking.{merged_of, picked}}
use Rattle.world_merge.proofs.Counting.{picked-merged}

-- the head that is picked comes first, and then what is left without it
pub goes-on : (ls : List (Bor (List Entry))) (h : Head) (e : EntryRef) →
    picked (lists_of ls) ≡ picked_at (lists_of ls) (Some h) → lent_line e ≡ h.entry.now →
    merged_of (lists_of ls) ≡ lent_line e ∷ merged_of (lists_of (slice_set ls h.place h.left))
goes-on ls h e p q =
    picked-merged (lists_of ls) (without_head (lists_of ls) h) p
    ∙ ap (λ x. x ∷ merged_of (slice_set (lists_of ls) h.place h.left.now)) (sym q)
    ∙ ap (λ xs. lent_line e ∷ merged_of xs) (sym (map-set (λ l. l.now) ls h.place h.left))

pub shorter : {l m : List Entry} {e : Entry} → l ≡ e ∷ m → length m < length l
shorter {l} {m} {e} p = subst (λ xs. length m < length xs) (sym p) (omega arith)
