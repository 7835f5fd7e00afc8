-- The lines that tell what the files of a BASE are.
use Rattle.std.specs.Prelude.{ℕ, nat_eq, Bool, true, false, List, [], ◌++◌, codes}
use Rattle.std.specs.Fmt.{decimal}
use Rattle.std.specs.Cmp.Lexicographic.{pointwise}
use Rattle.hex.specs.Hex.{encode_lower}
use Rattle.carry_cli.specs.declared.kinds.Counting.{Counting}
use Rattle.carry_cli.specs.declared.kinds.Counting.TheVariants as counts
use Rattle.carry_cli.specs.declared.kinds.Kind.{Kind}
use Rattle.carry_cli.specs.declared.kinds.Kind.TheVariants as kind
use Rattle.carry_cli.specs.declared.kinds.Making.{Making}
use Rattle.carry_cli.specs.declared.kinds.Next.{Next}
use Rattle.carry_cli.specs.declared.kinds.Next.TheVariants as next
use Rattle.carry_cli.specs.declared.kinds.Said.{Said}
use Rattle.carry_cli.specs.declared.kinds.Said.TheVariants as said
use Rattle.carry_cli.specs.declared.kinds.State.{State}
use Rattle.carry_cli.specs.declared.kinds.Why.TheVariants as why

-- whether a file with this fingerprint is of the texts
abbrev pub own_by : Bool → List ℕ
own_by true = codes " OWN\n"
own_by false = codes " OTHER\n"

abbrev pub own_text : Said → (fingerprint : List ℕ) → List ℕ
own_text (said.Single print) fingerprint = own_by (pointwise nat_eq print fingerprint)
own_text (said.Double print) fingerprint = own_by (pointwise nat_eq print fingerprint)
own_text said.Refused fingerprint = codes "\n"
own_text said.Unread fingerprint = codes "\n"

-- its pages in use, its PGPOOL and its BLKSIZE, and the texts that it is of; each byte of the fingerprint as two digits
abbrev pub making_text : Said → Making → List ℕ
making_text s m =
    (codes " PAGES " ++ (decimal m.used ++ (codes " OF " ++ (decimal m.pgpool ++ (codes " BLKSIZE " ++ (decimal m.blksize ++ codes " TEXTS ")))))) ++ encode_lower m.fingerprint ++ own_text s m.fingerprint

abbrev pub kind_text : Said → Kind → List ℕ
kind_text s kind.Missing = codes "NOT THERE\n"
kind_text s kind.Empty = codes "EMPTY\n"
kind_text s kind.Shut = codes "SHUT\n"
kind_text s kind.NoKdcfile = codes "NO KDCFILE\n"
kind_text s (kind.Single m) = codes "SINGLE" ++ making_text s m
kind_text s (kind.Copy n m) = (codes "COPY SEQUENCE " ++ decimal n) ++ making_text s m

-- what the definition and the units are
abbrev pub said_text : Said → List ℕ
said_text (said.Single print) = codes "TEXTS SINGLE " ++ encode_lower print ++ codes "\n"
said_text (said.Double print) = codes "TEXTS DOUBLE " ++ encode_lower print ++ codes "\n"
said_text said.Refused = codes "TEXTS REFUSED\n"
said_text said.Unread = codes "TEXTS NOT READ\n"

-- which copy counts
abbrev pub counting_text : Counting → List ℕ
counting_text counts.Neither = codes "NO COPY COUNTS\n"
counting_text counts.Alike = codes "COPIES ALIKE\n"
counting_text counts.First = codes "COPY A COUNTS\n"
counting_text counts.Second = codes "COPY B COUNTS\n"

-- the next run makes the file, or both
abbrev pub makes_text : Said → List ℕ
makes_text (said.Single print) = codes "RUN MAKES A\n"
makes_text (said.Double print) = codes "RUN MAKES A AND B\n"
makes_text said.Refused = []
makes_text said.Unread = []

-- it goes on from the tables of the one file, or of both; or writes one copy anew from the other one first
abbrev pub both_text : Counting → List ℕ
both_text counts.Neither = []
both_text counts.Alike = codes "RUN GOES ON FROM A AND B\n"
both_text counts.First = codes "RUN MENDS B FROM A\n"
both_text counts.Second = codes "RUN MENDS A FROM B\n"

abbrev pub goes_text : Said → Counting → List ℕ
goes_text (said.Single print) c = codes "RUN GOES ON FROM A\n"
goes_text (said.Double print) c = both_text c
goes_text said.Refused c = []
goes_text said.Unread c = []

-- why one file is refused that stands for no tables
abbrev pub one_text : Kind → List ℕ
one_text kind.Missing = codes "RUN REFUSES NOT A KDCFILE\n"
one_text kind.Empty = codes "RUN REFUSES NOT A KDCFILE\n"
one_text kind.Shut = codes "RUN REFUSES A MAKING THAT NEVER ENDED\n"
one_text kind.NoKdcfile = codes "RUN REFUSES NOT A KDCFILE\n"
one_text (kind.Single m) = codes "RUN REFUSES NOT A KDCFILE\n"
one_text (kind.Copy n m) = codes "RUN REFUSES A COPY UNDER SINGLE\n"

-- a file that is kept once
abbrev pub is_single : Kind → Bool
is_single kind.Missing = false
is_single kind.Empty = false
is_single kind.Shut = false
is_single kind.NoKdcfile = false
is_single (kind.Single m) = true
is_single (kind.Copy n m) = false

abbrev pub is_shut : Kind → Bool
is_shut kind.Missing = false
is_shut kind.Empty = false
is_shut kind.Shut = true
is_shut kind.NoKdcfile = false
is_shut (kind.Single m) = false
is_shut (kind.Copy n m) = false

-- why two files are refused of which none counts that stands for tables: where no copy counts, one of them is a file that is kept once, or one is shut
abbrev pub none_by : (single shut : Bool) → List ℕ
none_by true shut = codes "RUN REFUSES A SINGLE FILE UNDER DOUBLE\n"
none_by false true = codes "RUN REFUSES A MAKING THAT NEVER ENDED\n"
none_by false false = codes "RUN REFUSES NOT A KDCFILE\n"

abbrev pub either : Bool → Bool → Bool
either true b = true
either false b = b

abbrev pub two_text : Counting → (a b : Kind) → List ℕ
two_text counts.Neither a b = none_by (either (is_single a) (is_single b)) (either (is_shut a) (is_shut b))
two_text counts.Alike a b = codes "RUN REFUSES NOT A KDCFILE\n"
two_text counts.First a b = codes "RUN REFUSES NOT A KDCFILE\n"
two_text counts.Second a b = codes "RUN REFUSES NOT A KDCFILE\n"

abbrev pub refused_text : Said → Counting → (a b : Kind) → List ℕ
refused_text (said.Single print) c a b = one_text a
refused_text (said.Double print) c a b = two_text c a b
refused_text said.Refused c a b = []
refused_text said.Unread c a b = []

-- what the next run does
abbrev pub next_text : Next → Said → Counting → (a b : Kind) → List ℕ
next_text next.Texts s c a b = codes "RUN REFUSES THE TEXTS\n"
next_text next.Makes s c a b = makes_text s
next_text next.GoesOn s c a b = goes_text s c
next_text (next.Refuses why.NotKdcfile) s c a b = refused_text s c a b
next_text (next.Refuses why.OtherGeneration) s c a b = codes "RUN REFUSES OTHER GENERATION\n"
next_text (next.Refuses why.SequenceSpent) s c a b = codes "RUN REFUSES SEQUENCE SPENT\n"

-- all that is told: each file, the texts, which copy counts, and what the next run does
abbrev pub state_lines : State → List ℕ
state_lines s =
    codes "A " ++ kind_text s.said s.first ++ codes "B " ++ kind_text s.said s.second ++ said_text s.said ++ counting_text s.counting ++ next_text s.next s.said s.counting s.first s.second
