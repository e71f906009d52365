-- What a zone answer to C says: the kind and the minutes, as the rules have them. Assumes nothing.
use Rattle.zone_text.specs.Answered.{ZoneMinutes}
use Rattle.zone_text.specs.Zone.{zone_minutes}
use Rattle.exports.specs.declared.ZoneMinutes.{ZoneMinutes as ForC}

abbrev pub given : ForC → ZoneMinutes
given answer = zone_minutes answer.kind answer.minutes
