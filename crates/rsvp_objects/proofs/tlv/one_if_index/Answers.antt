use Rattle.rsvp_objects.proofs.Tlvs.{just_one, not_one}
use Rattle.rsvp_objects.proofs.tlv.one_if_index.Goals as goal

pub returns-in-Some : goal.returns-in-Some
returns-in-Some c = just_one _ _ c.in-Some.ensures

pub returns-in-None : goal.returns-in-None
returns-in-None c = not_one _ c.in-None.ensures
