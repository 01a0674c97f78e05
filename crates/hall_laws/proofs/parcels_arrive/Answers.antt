use Rattle.hall_laws.proofs.Parcels.{parcel_arrives}
use Rattle.hall_laws.proofs.parcels_arrive.Goals as goal

pub returns : goal.returns
returns g c = parcel_arrives g.M.Labelled.tag
