-- The frames of a new row as it goes out first, neighbour by neighbour.
use Rattle.std.proofs.{Common.{◌≡◌, ◌<◌, ◌+◌, ℕ, Bool, true, false, cond, not, List, [], ◌∷◌, ◌++◌, length, get_or, filter, map, take, ap, sym, subst, ◌∙◌, append_assoc}, lemmas.List.{append-nil, map-append, take_more}, lemmas.List.Elements.filter-append}
use Rattle.std.specs.Prelude.{Some}
use Rattle.ason_base.specs.{declared.ids.NodeId.NodeId, declared.network.TeRow.TeRow}
use Rattle.flood.specs.{declared.messages.FloodMsg.FloodMsg, State.{NeighbourState, first_sending, first_sendings, is_from}}
use Rattle.control_channels.specs.{Controllers.floods_to, Frames.{AllSpelled, Sending, frames_to, sent_frame}, declared.frames.Frame.Frame}
use Rattle.control_channels.proofs.Spelled.{both-spelled}

module _ (from origin : NodeId) (row : TeRow) (ns : List NeighbourState) (i : ℕ) (n : NeighbourState) (within : i < length ns)
    (is : n ≡ get_or ns i n) where
  other : NeighbourState → Bool
  other m = not (is_from (Some from) m)

  more : first_sendings from origin row (take (i + 1) ns) ≡ first_sendings from origin row (take i ns)
      ++ map (first_sending origin row) (cond (not (is_from (Some from) n)) (n ∷ []) [])
  unfolding other
  more =
      ap (λ ms. map (first_sending origin row) (filter other ms))
      (take_more ns i n within ∙ ap (λ m. take i ns ++ m ∷ []) (sym is))
      ∙ ap (map (first_sending origin row)) (filter-append other (take i ns) (n ∷ []))
      ∙ map-append (first_sending origin row) (filter other (take i ns)) (filter other (n ∷ []))

  -- one neighbour more, to which the row goes
  pub sends-more : is_from (Some from) n ≡ false → first_sendings from origin row (take (i + 1) ns) ≡
      first_sendings from origin row (take i ns) ++ first_sending origin row n ∷ []
  sends-more e = more ∙ ap (λ b. first_sendings from origin row (take i ns)
      ++ map (first_sending origin row) (cond (not b) (n ∷ []) [])) e

  -- and the one from which it came
  pub sends-none : is_from (Some from) n ≡ true → first_sendings from origin row (take (i + 1) ns) ≡
      first_sendings from origin row (take i ns)
  sends-none e = more ∙ ap (λ b. first_sendings from origin row (take i ns)
      ++ map (first_sending origin row) (cond (not b) (n ∷ []) [])) e
      ∙ append-nil (first_sendings from origin row (take i ns))

pub framed-more : (me : NodeId) (first now new : List Frame) (done next all : List (NodeId × FloodMsg)) →
    now ≡ first ++ frames_to me (floods_to done) → new ≡ now ++ frames_to me (floods_to next) → all ≡ done ++ next →
    new ≡ first ++ frames_to me (floods_to all)
framed-more me first now new done next all before pushed are =
    pushed ∙ ap (λ fs. fs ++ frames_to me (floods_to next)) before
    ∙ append_assoc first (frames_to me (floods_to done)) (frames_to me (floods_to next))
    ∙ ap (λ fs. first ++ fs)
    (sym (ap (λ ss. frames_to me (floods_to ss)) are
    ∙ ap (frames_to me) (map-append _ done next)
    ∙ map-append (λ (s : Sending). sent_frame me s.to s.content) (floods_to done) (floods_to next)))

pub spelled-more : (me : NodeId) (done next all : List (NodeId × FloodMsg)) → AllSpelled me (floods_to done) →
    AllSpelled me (floods_to next) → all ≡ done ++ next → AllSpelled me (floods_to all)
spelled-more me done next all before after are =
    subst (AllSpelled me) (sym (ap floods_to are ∙ map-append _ done next))
    (both-spelled me (floods_to done) (floods_to next) before after)
