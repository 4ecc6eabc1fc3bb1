use Rattle.mesh_laws.proofs.safe.Light.{every_label_of_link, every_light}
use Rattle.mesh_laws.proofs.service.every_light.Goals as goal

pub returns : goal.returns
returns c = record { lit = every_light; of_link = every_label_of_link }
