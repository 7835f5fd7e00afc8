-- A generation's tables in memory, and what they stand for.
use Rattle.application_types.specs.Generation.{Generated}
use Rattle.application_types.specs.declared.generation.GenerationParts.{GenerationParts}
use Rattle.application_types.specs.Soundness.{IsSound}

abbrev pub generated_of : GenerationParts → Generated
generated_of g = record { limits = g.limits; programs = g.programs.entries; tacs = g.tacs.entries; users = g.users.entries; pterms = g.pterms.entries; lterms = g.lterms.entries; tls = g.tls.keys; uls = g.uls.keys; classes = g.classes.entries; ksets = g.ksets.entries; counts = g.counts; double = g.double }

-- what the tables stand for keeps what every generation keeps
abbrev pub AreSoundParts : GenerationParts → Type 0
AreSoundParts g = IsSound (generated_of g)
