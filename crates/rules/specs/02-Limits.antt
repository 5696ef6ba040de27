-- "Room: 16 SDSs, 128 types, 512 presences, 256 applications, 512 ends." "Names are 1 to 16 bytes."
-- The source's associated constants are these, by the contract of `Limits::all`.
use Rattle.rules.specs.declared.Limits.{Limits}

abbrev pub limits : Limits
limits = record { name = 16; sdss = 16; types = 128; presences = 512; applications = 256; ends = 512 }
