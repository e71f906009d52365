-- The checker computes the whole table from its rule, and the constant is that.
use Rattle.std.proofs.Common.{refl}
use Rattle.zone_text.specs.Zone.{characters}
use Rattle.zones.specs.Records.{hour_record, fixed_table}
use Rattle.zones.proofs.records.fixed_table.Goals as goal

pub returns : goal.returns
unfolding fixed_table hour_record characters
returns c = refl
