use Rattle.wire_buf.proofs.Codecs.{decodes_none}
use Rattle.te_tlv.proofs.{SubTlvsFound.stand_once, Once.row_read}
use Rattle.te_tlv.proofs.reading.read_row.Goals as goal

pub returns-in_default-scan : goal.returns-in_default-scan
returns-in_default-scan c = decodes_none (λ row spelled.
    c.in_default-scan.ensures.none spelled.subs (rw c.in-Some.ensures.same spelled.tlv.subs_are)
    (stand_once c.args.origin spelled.subs row spelled.fields))

pub returns-in_default-read_fields : goal.returns-in_default-read_fields
returns-in_default-read_fields c = decodes_none (λ row spelled.
    c.in_default-read_fields.ensures.none spelled.subs
    (c.in-Some-scan.ensures.found spelled.subs (rw c.in-Some.ensures.same spelled.tlv.subs_are))
    spelled.fields.peer row.metric row.link.0 spelled.fields.fields)

pub returns : goal.returns
returns c =
    row_read _ _ _ _ _ _ _ _ _ c.in-Some.ensures.found c.in-Some-scan.ensures.some
    (λ subs are. c.in-Some-read_fields.ensures.found subs (c.in-Some-scan.ensures.found subs are))
    (λ subs are. c.in_ok-srlgs.ensures.found subs (c.in-Some-scan.ensures.found subs are))
    c.min.ensures c.max.ensures
