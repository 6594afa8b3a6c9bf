-- The laws by which a raise is read: a row of fields, with the test of its region.
use Rattle.fields.specs.ReadingLaws.{row_is}
use Rattle.raise_fields.specs.RegionLaws.{region_named}

pub ruleset rows = (row_is, region_named)
