use Rattle.std.proofs.Common.{◌≡◌, List, ℕ, ap, sym, subst, Err}
use Rattle.kdcfile_copies.specs.Finding.{IsAnswer}
use Rattle.kdcfile_copies.specs.declared.answer.Found.{Found}
use Rattle.kdcfile_double.specs.declared.error.TwinOpenError.{TwinOpenError}
use Rattle.carry_cli.specs.Seeing.{IsSeen, found_of}
use Rattle.carry_cli.specs.declared.seeing.Seen.{Seen}
use Rattle.carry_cli.proofs.Seen.{seen_answer}
use Rattle.carry_cli.proofs.Going.{going, not_empty}
use Rattle.carry_cli.proofs.next.next_of_filled.Goals as goal

-- what was seen of a file, as it was handed on
answer : (f : Found) (s : Seen) (bytes : List ℕ) → f ≡ found_of s → IsSeen s bytes → IsAnswer f bytes
answer f s bytes is h = subst (λ (x : Found). IsAnswer x bytes) (sym is) (seen_answer s bytes h)

pub returns-in-Ok : goal.returns-in-Ok
returns-in-Ok c = λ a b first second.
    let fits = c.in-Ok.ensures.fits a b (answer c.into_found.result c.args.first a c.into_found.ensures first) (answer c.into_found-2.result c.args.second b c.into_found-2.ensures second) in
    going c.args.work.now.application.generation c.args.work.now.fingerprint _ _ a b fits c.in-Ok.ensures.keeps c.in-Ok.ensures.suits c.in-Ok.ensures.sequence

pub returns-in-Err-NotKdcfile : goal.returns-in-Err-NotKdcfile
returns-in-Err-NotKdcfile c = λ a b first second. (
  not_empty c.args.first c.args.second a b c.requires.first c.requires.second first second c.requires.filled,
  c.in-Err-NotKdcfile.ensures.refused (ap (λ (e : TwinOpenError). Err e) c.in-Err-NotKdcfile.field-0-is) a b (answer c.into_found.result c.args.first a c.into_found.ensures first) (answer c.into_found-2.result c.args.second b c.into_found-2.ensures second),
)

pub returns-in-Err-OtherGeneration : goal.returns-in-Err-OtherGeneration
returns-in-Err-OtherGeneration c = λ a b first second.
    (_, c.in-Err-OtherGeneration.ensures.other _ (ap (λ (e : TwinOpenError). Err e) c.in-Err-OtherGeneration.field-0-is) a b (answer c.into_found.result c.args.first a c.into_found.ensures first) (answer c.into_found-2.result c.args.second b c.into_found-2.ensures second))

pub returns-in-Err-Spent : goal.returns-in-Err-Spent
returns-in-Err-Spent c = λ a b first second.
    (_, c.in-Err-Spent.ensures.spent _ (ap (λ (e : TwinOpenError). Err e) c.in-Err-Spent.field-0-is) a b (answer c.into_found.result c.args.first a c.into_found.ensures first) (answer c.into_found-2.result c.args.second b c.into_found-2.ensures second))
