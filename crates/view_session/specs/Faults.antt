-- Why a view was not changed, by why its keys were not listed.
use Rattle.tile_key.specs.declared.seen.VisibleFault.{VisibleFault}
use Rattle.tile_key.specs.declared.seen.VisibleFault.TheVariants.{TooLarge as SeesTooMuch, Memory as NotListed}
use Rattle.view_session.specs.declared.views.ViewFault.{ViewFault}
use Rattle.view_session.specs.declared.views.ViewFault.TheVariants.{TooLarge, Memory as NoMemory}

abbrev pub fault_of : VisibleFault → ViewFault
fault_of SeesTooMuch = TooLarge
fault_of NotListed = NoMemory
