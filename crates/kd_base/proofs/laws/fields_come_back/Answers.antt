use Rattle.kd_base.specs.RoundTripsLaws.{u8_comes_back, u32_comes_back, u64_comes_back, list_comes_back, name_comes_back, name_stands_there}
use Rattle.kd_base.proofs.laws.fields_come_back.Goals as goal

pub returns : goal.returns
returns c = record { u8 = u8_comes_back; u32 = u32_comes_back; u64 = u64_comes_back; list = list_comes_back; name = name_comes_back; no_other_name = name_stands_there }
