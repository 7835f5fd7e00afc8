-- What a failure says.
use Rattle.std.specs.Prelude.{◌≡◌, Option, None, Result, Err}
use Rattle.record_codec.specs.declared.reading.Unread.{Unread}
use Rattle.record_codec.specs.declared.reading.Unread.TheVariants.{NotThere, Memory}
use Rattle.record_codec.specs.Reads.{ReadsWhole}

abbrev failed : (A : Type 0) → Unread → Result A Unread
failed A e = Err e

pub not_read : {A : Type 0} (e : Unread) (found : Option A) → e ≡ NotThere → ReadsWhole (failed A e) found → found ≡ None
not_read NotThere found is h = h
not_read Memory found is h = absurd (cc is)
