-- Laws: which statement is END.
use Rattle.std.specs.Prelude.{◌≡◌, refl, true}
use Rattle.application_types.specs.declared.kdcdef_types.statement.Said.{Said}
use Rattle.application_types.specs.declared.kdcdef_types.statement.Said.TheVariants.{End}
use Rattle.application_check.specs.Faults.{is_end}

pub end_is : (said : Said) → is_end said ≡ true → said ≡ End
end_is End h = refl
end_is said h = absurd cc
