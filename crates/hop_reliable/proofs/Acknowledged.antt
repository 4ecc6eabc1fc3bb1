-- What acknowledgements take off, one after the other.
use Rattle.std.proofs.{Common.{◌≡◌, ◌≢◌, ◌<◌, ℕ, zero, suc, ◌+◌, ◌==◌, ◌||◌, Bool, true, false, cond, not, List, [], ◌∷◌, ◌++◌, length, get_or, refl, sym, arith, Result, Ok, Err, take}, lemmas.List.take_more, lemmas.List.Elements.filter_agree, lemmas.List.Folds.list_any-append}
use Rattle.std.specs.{Prelude.filter, List.remove, List.Sorted.IsBinarySearchResult, Ordering.nat_cmp}
use Rattle.ason_base.proofs.{KeyedLists.filter-true, KeySearch.{found-key, no-key}, Numbers.equal-not}
use Rattle.ason_base.specs.declared.messages.MsgId.{MsgId}
use Rattle.hop_reliable.specs.{declared.unacked.Unacked.Unacked, Hop.{is_ack_of, is_acked, still_unacked}, Order.UnackedNumbersRise}
use Rattle.hop_reliable.proofs.KeyRemoved.{all-stay, one-goes}

-- One number

-- where the first message has the number, it is the one that goes
pub first-goes : (number : ℕ) (ws : List Unacked) (d : Unacked) → UnackedNumbersRise ws → 0 < length ws →
    (get_or ws 0 d).number ≡ number → remove ws 0 ≡ filter (λ (w : Unacked). not (w.number == number)) ws
first-goes number [] d rising within is = absurd (omega arith)
first-goes number (w ∷ ws) d rising within is =
    one-goes (λ (v : Unacked). v.number) number (w ∷ ws) 0 rising within (λ e. is)

-- where the number is below that of the first message, nothing goes
pub below-stay : (number : ℕ) (ws : List Unacked) (d : Unacked) → UnackedNumbersRise ws →
    number < (get_or ws 0 d).number → ws ≡ filter (λ (w : Unacked). not (w.number == number)) ws
below-stay number [] d rising below = refl
below-stay number (w ∷ ws) d rising below =
    sym (all-stay (λ (v : Unacked). v.number) number (w ∷ ws) other)
  where
    other : (k : ℕ) (e : Unacked) → k < length (w ∷ ws) → (get_or (w ∷ ws) k e).number ≢ number
    other zero e within is = absurd (omega arith)
    other (suc k) e within is =
        let above : w.number < (get_or ws k e).number = rising 0 (suc k) e (omega arith) within in
        absurd (omega arith)

abbrev pub IsFoundBy : ℕ → List Unacked → Result ℕ ℕ → Type 0
IsFoundBy number ws r = IsBinarySearchResult (λ (w : Unacked). nat_cmp w.number number) ws r

-- what a binary search by number finds is the one that goes
pub found-goes : (number : ℕ) (ws : List Unacked) (i : ℕ) → UnackedNumbersRise ws → i < length ws
    → IsFoundBy number ws (Ok i)
    → remove ws i ≡ filter (λ (w : Unacked). not (w.number == number)) ws
found-goes number ws i rising within found =
    one-goes (λ (w : Unacked). w.number) number ws i rising within
    (found-key (λ (w : Unacked). w.number) ws number i found)

-- and where it finds nothing, nothing goes
pub none-goes : (number : ℕ) (ws : List Unacked) (i : ℕ) → UnackedNumbersRise ws
    → IsFoundBy number ws (Err i)
    → ws ≡ filter (λ (w : Unacked). not (w.number == number)) ws
none-goes number ws i rising absent =
    sym (all-stay (λ (w : Unacked). w.number) number ws
    (no-key (λ (w : Unacked). w.number) ws number i rising absent))

-- One acknowledgement more

-- one more acknowledgement takes off what bears its number
left-more : (acks : List MsgId) (ack : MsgId) (ws : List Unacked) →
    still_unacked (acks ++ ack ∷ []) ws ≡ filter (λ w. not (is_ack_of w.number ack)) (still_unacked acks ws)
left-more acks ack [] = refl
left-more acks ack (w ∷ ws) =
    rw (list_any-append (is_ack_of w.number) acks (ack ∷ []), left-more acks ack ws)
    (go (is_acked acks w) (is_ack_of w.number ack) refl)
  where
    left : List Unacked
    left = still_unacked acks ws

    others : List Unacked
    others = filter (λ v. not (is_ack_of v.number ack)) left

    go : (a b : Bool) → is_ack_of w.number ack ≡ b →
        cond (not (a || (b || false))) (w ∷ others) others
        ≡ filter (λ v. not (is_ack_of v.number ack)) (cond (not a) (w ∷ left) left)
    go true b e = refl
    go false true e = rw e refl
    go false false e = rw e refl

-- an acknowledgement in epoch 1 takes off the message of its number
pub number-goes : (acks : List MsgId) (i : ℕ) (d : MsgId) (ws now : List Unacked) → i < length acks →
    (get_or acks i d).epoch ≡ 1 → now ≡ still_unacked (take i acks) ws →
    filter (λ (w : Unacked). not (w.number == (get_or acks i d).number)) now ≡ still_unacked (take (i + 1) acks) ws
number-goes acks i d ws now within epoch before =
    rw (take_more acks i d within, left-more (take i acks) (get_or acks i d) ws, before)
    (filter_agree _ _ same (still_unacked (take i acks) ws))
  where
    same : (w : Unacked) → not (w.number == (get_or acks i d).number) ≡ not (is_ack_of w.number (get_or acks i d))
    same w = grind arith

-- an acknowledgement in another epoch takes nothing off
pub nothing-goes : (acks : List MsgId) (i : ℕ) (d : MsgId) (ws now : List Unacked) → i < length acks →
    (get_or acks i d).epoch ≢ 1 → now ≡ still_unacked (take i acks) ws →
    now ≡ still_unacked (take (i + 1) acks) ws
nothing-goes acks i d ws now within epoch before =
    rw (
      take_more acks i d within,
      left-more (take i acks) (get_or acks i d) ws,
      before,
      filter_agree (λ (w : Unacked). not (is_ack_of w.number (get_or acks i d))) (λ w. true) same
          (still_unacked (take i acks) ws),
    ) (sym (filter-true (still_unacked (take i acks) ws)))
  where
    same : (w : Unacked) → not (is_ack_of w.number (get_or acks i d)) ≡ true
    same w = rw (equal-not (get_or acks i d).epoch 1 epoch) refl
