-- Which lists of statements a reader may give.
use Rattle.std.specs.Prelude.{◌≡◌, ℕ, ◌+◌, ◌≤◌, ◌⊎◌, List, [], ◌∷◌, length, Option, Some, None, IfSome}
use Rattle.std.specs.List.{All}
use Rattle.application_types.specs.declared.kdcdef_types.entry.TacEntry.{TacEntry}
use Rattle.application_types.specs.declared.kdcdef_types.entry.UserEntry.{UserEntry}
use Rattle.application_types.specs.declared.kdcdef_types.entry.KeySet.{KeySet}
use Rattle.application_types.specs.declared.kdcdef_types.entry.KeySet.TheVariants.{Master, Codes}
use Rattle.application_types.specs.declared.kdcdef_types.statement.MaxOperands.{MaxOperands}
use Rattle.application_types.specs.declared.kdcdef_types.statement.Said.{Said}
use Rattle.application_types.specs.declared.kdcdef_types.statement.Said.TheVariants.{Max, Tac, User, TacClass, Kset, End}
use Rattle.application_types.specs.declared.kdcdef_types.statement.Statement.{Statement}

-- n is from low to high
abbrev pub IsWithin : ℕ → ℕ → ℕ → Type 0
IsWithin low high n = (low ≤ n) × (n ≤ high)

-- the sizes that a page may have
abbrev pub IsBlksize : ℕ → Type 0
IsBlksize n = (n ≡ 2048) ⊎ ((n ≡ 4096) ⊎ (n ≡ 8192))

-- the numbers of a MAX statement lie in their ranges
pub record IsMaxInRange (m : MaxOperands) : Type 0 where
  pub tasks : IfSome m.tasks (IsWithin 1 240)
  pub asyntasks : IfSome m.asyntasks (IsWithin 0 240)
  pub gssbs : IfSome m.gssbs (IsWithin 0 30000)
  pub lssbs : IfSome m.lssbs (IsWithin 0 1000)
  pub kb : IfSome m.kb (IsWithin 0 32767)
  pub spab : IfSome m.spab (IsWithin 0 32767)
  pub nb : IfSome m.nb (IsWithin 1 32700)
  pub pgpool : IfSome m.pgpool (IsWithin 16 30000)
  pub reswait : IfSome m.reswait (IsWithin 0 32767)
  pub blksize : IfSome m.blksize IsBlksize
  pub redelivery : IfSome m.redelivery (IsWithin 0 255)

-- the numbers of a TAC lie in their ranges; class 0 is none
pub record IsTacInRange (t : TacEntry) : Type 0 where
  pub class : t.class ≤ 16
  pub time : IsWithin 1 100000 t.time
  pub lock : IfSome t.lock (IsWithin 1 4000)

-- a password has 1 to 16 bytes
abbrev pub IsUserInRange : UserEntry → Type 0
IsUserInRange u = IfSome u.pass (λ (pass : List ℕ). IsWithin 1 16 (length pass))

-- a key set has all codes, or one code or more, each in its range
abbrev pub IsKeySetInRange : KeySet → Type 0
IsKeySetInRange Master = Unit {0}
IsKeySetInRange (Codes codes) = (1 ≤ length codes) × All (IsWithin 1 4000) codes

-- the numbers of a statement lie in their ranges
abbrev pub IsInRange : Said → Type 0
IsInRange (Max m) = IsMaxInRange m
IsInRange (Tac name entry) = IsTacInRange entry
IsInRange (User name entry) = IsUserInRange entry
IsInRange (TacClass class tasks) = IsWithin 1 16 class × (tasks ≤ 240)
IsInRange (Kset name keys) = IsKeySetInRange keys
IsInRange _ = Unit {0}

-- the last statement is END, and no other is
abbrev pub EndsOnce : List Statement → Type 0
EndsOnce [] = ⊥
EndsOnce (s ∷ []) = s.said ≡ End
EndsOnce (s ∷ t ∷ more) = (s.said ≡ End → ⊥) × EndsOnce (t ∷ more)

-- how many operands are passed over in all statements together
abbrev pub passed_count : List Statement → ℕ
passed_count [] = 0
passed_count (s ∷ ss) = s.passed + passed_count ss

-- not both are given
abbrev pub NotBoth : {A : Type 0} → Option A → Option A → Type 0
NotBoth None b = Unit {0}
NotBoth (Some x) None = Unit {0}
NotBoth (Some x) (Some y) = ⊥

-- two MAX statements give no operand twice
pub record AreApart (m n : MaxOperands) : Type 0 where
  pub appliname : NotBoth m.appliname n.appliname
  pub tasks : NotBoth m.tasks n.tasks
  pub asyntasks : NotBoth m.asyntasks n.asyntasks
  pub gssbs : NotBoth m.gssbs n.gssbs
  pub lssbs : NotBoth m.lssbs n.lssbs
  pub kb : NotBoth m.kb n.kb
  pub spab : NotBoth m.spab n.spab
  pub nb : NotBoth m.nb n.nb
  pub pgpool : NotBoth m.pgpool n.pgpool
  pub reswait : NotBoth m.reswait n.reswait
  pub blksize : NotBoth m.blksize n.blksize
  pub redelivery : NotBoth m.redelivery n.redelivery
  pub double : NotBoth m.double n.double

-- what two statements say gives no operand of MAX twice
abbrev pub SayApart : Said → Said → Type 0
SayApart (Max m) (Max n) = AreApart m n
SayApart _ _ = Unit {0}

-- no two MAX statements give the same operand
abbrev pub NoMaxTwice : List Statement → Type 0
NoMaxTwice [] = Unit {0}
NoMaxTwice (s ∷ ss) = All (λ (t : Statement). SayApart s.said t.said) ss × NoMaxTwice ss

-- what a reader of statements promises of them
pub record AreRead (ss : List Statement) : Type 0 where
  pub ranges : All (λ (s : Statement). IsInRange s.said) ss
  pub lines : All (λ (s : Statement). s.line ≤ 16777217) ss
  pub ends : EndsOnce ss
  pub max : NoMaxTwice ss
  pub passed : passed_count ss ≤ 16777216
