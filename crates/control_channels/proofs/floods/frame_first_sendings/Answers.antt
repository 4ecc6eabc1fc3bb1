use Rattle.std.proofs.Common.{[], ◌∷◌, ◌∙◌, sym}
use Rattle.flood.specs.State.{first_sending}
use Rattle.control_channels.proofs.{FirstSendings.{framed-more, sends-more, sends-none, spelled-more}, floods.frame_first_sendings.Goals.{then-not-is_from+in_ok-frame_first, else-not-is_from}}
use Rattle.control_channels.proofs.floods.frame_first_sendings.Goals as goal

pub loop-neighbour-preserved : goal.loop-neighbour-preserved
loop-neighbour-preserved c =
    let l = c.loop-neighbour in
    let n = c.neighbour-item.result in
    let ns = c.neighbours-neighbours.result.now in
    let new = c.args.new in
    elim c.if-not-is_from.branch [
      | then-not-is_from+in_ok-frame_first w ↦
          let all = sends-more new.from new.origin new.row.now ns l.neighbour-index n c.loop-neighbour-test.true
          c.neighbour-item.is (sym c.is_from.ensures ∙ w.if-not-is_from.true) in
          rw w.frames-is (record {
            frames = framed-more c.args.me c.args.frames.now.items l.frames.items _ _
                (first_sending new.origin new.row.now n ∷ []) _ l.invariant.frames w.in_ok-frame_first.ensures.frames all;
            spelled = spelled-more c.args.me _ (first_sending new.origin new.row.now n ∷ []) _ l.invariant.spelled
                w.in_ok-frame_first.ensures.spelled all;
          })
      | else-not-is_from w ↦
          let all = sends-none new.from new.origin new.row.now ns l.neighbour-index n c.loop-neighbour-test.true
          c.neighbour-item.is (sym c.is_from.ensures ∙ w.if-not-is_from.false) in
          rw (w.frames-is, all) l.invariant
    ]
