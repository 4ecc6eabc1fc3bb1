use Rattle.std.proofs.Common.{map, string_bytes}
use Rattle.ason_main.proofs.{NoFleet.{check_answered, decode_answered}, Replies.takes_plan}
use Rattle.ason_main.proofs.answers.judge.Goals as goal

pub returns-in-Check : goal.returns-in-Check
returns-in-Check g c =
    check_answered g.K.Sink.written g.K.Sink.faults (map string_bytes c.args.asked.now.words.now)
    c.args.asked.now.inquiry c.args.bytes.now c.args.out.now c.check_input.new.out c.args.kept.now
    c.check_input.result c.requires c.in-Check.is c.check_input.ensures

pub returns-in-Decode : goal.returns-in-Decode
returns-in-Decode g c =
    decode_answered g.K.Sink.written g.K.Sink.faults (map string_bytes c.args.asked.now.words.now)
    c.args.asked.now.inquiry c.args.bytes.now c.args.out.now c.decode_input.new.out c.args.kept.now
    c.decode_input.result c.requires c.in-Decode.is c.decode_input.ensures

pub plan_input-requires-clause-takes : goal.plan_input-requires-clause-takes
plan_input-requires-clause-takes g c lives bounds =
    takes_plan (map string_bytes c.args.asked.now.words.now) c.args.asked.now.inquiry c.in_default.not-Check
    c.in_default.not-Decode
