use Rattle.std.proofs.{Common.{◌≡◌, ◌+◌, ◌∙◌, ℕ, List, Some, ap, get_or, set, slice_get, subst}, lemmas.Option.get_or_from_slice_get, lemmas.Result.IfOk-weaker}
use Rattle.ason_base.proofs.Results.{on_err, on_ok}
use Rattle.flood.specs.{declared.frames.Content.TheVariants.Message, Frames.IsFrame}
use Rattle.hop_reliable.specs.Hop.{PreparedHop, last_number, numbered, with_next}
use Rattle.control_channels.specs.{declared.adjacencies.Adjacency.Adjacency, Adjacencies.with_hop, Frames.sent_frame}
use Rattle.control_channels.proofs.adjacencies.prepare_at.Goals as goal

-- the adjacency at a place, with a hop that comes of its own
put-there : (xs : List Adjacency) (i : ℕ) (d a : Adjacency) (h : PreparedHop) (f : PreparedHop → PreparedHop) →
    h ≡ f (get_or xs i d).hop → slice_get xs i ≡ Some a →
    set xs i (with_hop h (get_or xs i d)) ≡ set xs i (with_hop (f a.hop) a)
put-there xs i d a h f made found =
    ap (λ k. set xs i (with_hop k (get_or xs i d))) made
    ∙ ap (λ (b : Adjacency). set xs i (with_hop (f b.hop) b)) (get_or_from_slice_get xs i a d found)

pub returns-clause-ok : goal.returns-clause-ok
returns-clause-ok c =
    let there = get_or c.args.adjacencies.now c.args.place c.index-adjacencies-place.result in
    on_ok c.prepare_framed.result _ _ (λ made a found. put-there c.args.adjacencies.now c.args.place
    c.index-adjacencies-place.result a c.prepare_framed.new.hop (λ h. with_next h c.args.out.msg)
    (subst (λ parts. c.prepare_framed.new.hop ≡ with_next there.hop parts.1) c.into_parts-msg.ensures made) found)
    c.prepare_framed.ensures.ok

pub returns-clause-err : goal.returns-clause-err
returns-clause-err c =
    on_err c.prepare_framed.result _ _ (λ same a found. put-there c.args.adjacencies.now c.args.place
    c.index-adjacencies-place.result a c.prepare_framed.new.hop (λ h. h) same found) c.prepare_framed.ensures.err

pub returns-clause-frame : goal.returns-clause-frame
returns-clause-frame c =
    let there = get_or c.args.adjacencies.now c.args.place c.index-adjacencies-place.result in
    IfOk-weaker c.prepare_framed.result _ _ (λ f is a found. is
    ∙ ap (λ parts. sent_frame c.args.me parts.0 (Message (numbered (last_number there.hop + 1) parts.1)))
    c.into_parts-msg.ensures
    ∙ ap (λ (b : Adjacency). sent_frame c.args.me c.args.out.to
    (Message (numbered (last_number b.hop + 1) c.args.out.msg))) (get_or_from_slice_get c.args.adjacencies.now
    c.args.place a c.index-adjacencies-place.result found)) c.prepare_framed.ensures.frame

pub returns-clause-spelled : goal.returns-clause-spelled
returns-clause-spelled c =
    let there = get_or c.args.adjacencies.now c.args.place c.index-adjacencies-place.result in
    IfOk-weaker c.prepare_framed.result _ _ (λ f spells a found. subst (λ (b : Adjacency). IsFrame f.bytes
    (Message (numbered (last_number b.hop + 1) c.args.out.msg))) (get_or_from_slice_get c.args.adjacencies.now
    c.args.place a c.index-adjacencies-place.result found)
    (subst (λ parts. IsFrame f.bytes (Message (numbered (last_number there.hop + 1) parts.1)))
    c.into_parts-msg.ensures spells)) c.prepare_framed.ensures.spelled
