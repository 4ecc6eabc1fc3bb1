use Rattle.std.proofs.{Common.{[], ap, inl, map, refl, string_bytes, subst}, KnownBytes.Appends-nil}
use Rattle.std.specs.Prelude.{Err}
use Rattle.commands.specs.{Replies.{ReadFault, TooLong, Unfinished, request_for, text_of_reply}, declared.status.Status.Status}
use Rattle.ason_main.specs.Answers.{IsJudged}
use Rattle.ason_main.proofs.{Complete.judged_for, Replies.{other_status, told_other}}
use Rattle.ason_main.proofs.answers.read.Goals as goal

pub returns-in-Ok : goal.returns-in-Ok
returns-in-Ok g c =
    let request = request_for (map string_bytes c.args.words.now) c.args.inquiry in
    let given = c.judge.ensures in (
      given.0,
      judged_for g.S.Source.left g.S.Source.handed g.S.Source.ended g.S.Source.faults c.args.src.now
          c.read_all.new.src c.in-Ok.bytes.items request given.0 c.judge.new.kept c.in-Ok.ensures.to_end
          c.in-Ok.ensures.within
          (subst (λ bs. IsJudged request bs given.0 c.judge.new.kept) c.deref.ensures.value given.1),
      given.2,
      given.3,
    )

pub returns-in-Err-Failed : goal.returns-in-Err-Failed
returns-in-Err-Failed g c = (
  ReadFault,
  (
    c.in-Err-Failed.ensures.failed (ap Err c.in-Err-Failed.field-0-is),
    c.in-Err-Failed.ensures.failed_within (ap Err c.in-Err-Failed.field-0-is),
    c.requires,
  ),
  inl (refl, Appends-nil (g.K.Sink.written c.args.out.now)),
  other_status (request_for (map string_bytes c.args.words.now) c.args.inquiry) ReadFault Status.ReadFault
      Status.ReadFault tt refl (λ e. absurd (cc (e))),
)

pub returns-in-Err-OutOfMemory : goal.returns-in-Err-OutOfMemory
returns-in-Err-OutOfMemory g c = (
  Unfinished [],
  (c.in-Err-OutOfMemory.ensures.memory_within (ap Err c.in-Err-OutOfMemory.field-0-is), inl (refl, c.requires)),
  inl (refl, Appends-nil (g.K.Sink.written c.args.out.now)),
  other_status (request_for (map string_bytes c.args.words.now) c.args.inquiry) (Unfinished []) Status.OutOfMemory
      Status.OutOfMemory refl refl (λ e. absurd (cc (e))),
)

pub returns-in-Err-TooLong : goal.returns-in-Err-TooLong
returns-in-Err-TooLong g c = (
  TooLong,
  (c.in-Err-TooLong.ensures.too_long (ap Err c.in-Err-TooLong.field-0-is), c.requires),
  c.tell.ensures,
  told_other g.K.Sink.written g.K.Sink.faults (request_for (map string_bytes c.args.words.now) c.args.inquiry)
      TooLong c.args.out.now c.tell.new.out (text_of_reply TooLong) Status.TooLong c.tell.result tt
      (λ e. absurd (cc (e))) c.tell.ensures,
)
