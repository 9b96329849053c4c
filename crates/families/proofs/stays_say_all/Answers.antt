use Rattle.families.proofs.Stays.{say_all}
use Rattle.families.proofs.stays_say_all.Goals as goal

pub returns : goal.returns
returns c = say_all
