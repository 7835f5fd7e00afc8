-- What every generation keeps.
use Rattle.std.specs.Prelude.{◌≡◌, ℕ, ◌+◌, ◌<◌, ◌≤◌, Bool, false, ◌||◌, ◌==◌, List, length, Option, IfSome, IsTrue, is_some, count_by, if◌then◌else◌, nat_le}
use Rattle.std.specs.List.{All}
use Rattle.std.specs.Map.{keys_of, values_of}
use Rattle.kd_base.specs.Text.{IsName}
use Rattle.application_types.specs.declared.kdcdef_types.entry.TacEntry.{TacEntry}
use Rattle.application_types.specs.declared.kdcdef_types.entry.UserEntry.{UserEntry}
use Rattle.application_types.specs.declared.kdcdef_types.entry.PtermEntry.{PtermEntry}
use Rattle.application_types.specs.declared.kdcdef_types.entry.LtermEntry.{LtermEntry}
use Rattle.application_types.specs.declared.kdcdef_types.limits.Limits.{Limits}
use Rattle.application_types.specs.Statements.{IsWithin, IsBlksize, IsTacInRange, IsUserInRange, IsKeySetInRange}
use Rattle.application_types.specs.Generation.{Generated, entry_of, lterm_of}

-- the numbers of the MAX statements lie in their ranges
pub record AreLimits (m : Limits) : Type 0 where
  pub tasks : IsWithin 1 240 m.tasks
  pub asyntasks : m.asyntasks ≤ 240
  pub gssbs : m.gssbs ≤ 30000
  pub lssbs : m.lssbs ≤ 1000
  pub kb : m.kb ≤ 32767
  pub spab : m.spab ≤ 32767
  pub nb : IsWithin 1 32700 m.nb
  pub pgpool : IsWithin 16 30000 m.pgpool
  pub reswait : m.reswait ≤ 32767
  pub blksize : IsBlksize m.blksize
  pub redelivery : m.redelivery ≤ 255

-- a dialogue TAC has a class from 1 to 8 or none, an asynchronous TAC one from 9 to 16 or none
abbrev pub fits_kind : TacEntry → Bool
fits_kind t = if t.asynchronous then t.class == 0 || nat_le 9 t.class else nat_le t.class 8

-- how many of the users have RESTART=YES
abbrev pub restart_count : List (List ℕ × UserEntry) → ℕ
restart_count users = count_by (λ (u : UserEntry). u.restart) (values_of users)

-- a count is the length of its table, which has at most 20,000 entries
abbrev pub IsCountOf : {A : Type 0} → ℕ → List A → Type 0
IsCountOf n xs = (n ≡ length xs) × (n ≤ 20000)

-- the counts are those of the tables
pub record AreCounted (g : Generated) : Type 0 where
  pub users : IsCountOf g.counts.users g.users
  pub pterms : IsCountOf g.counts.pterms g.pterms
  pub lterms : IsCountOf g.counts.lterms g.lterms
  pub tacs : IsCountOf g.counts.tacs g.tacs
  pub programs : IsCountOf g.counts.programs g.programs
  pub passed_statements : g.counts.passed_statements ≤ 20000
  pub passed_operands : g.counts.passed_operands ≤ 16777216

-- the names of a table are names: of 1 to 8 bytes
abbrev pub HaveProperNames : {A : Type 0} → List (List ℕ × A) → Type 0
HaveProperNames {A} entries = All (λ (e : List ℕ × A). IsName e.0) entries

-- the names of the TACs, users and terminals
pub record AreNamed (g : Generated) : Type 0 where
  pub tacs : HaveProperNames g.tacs
  pub users : HaveProperNames g.users
  pub pterms : HaveProperNames g.pterms
  pub lterms : HaveProperNames g.lterms

-- where a key set is named, there is a KSET of that name
abbrev pub HasKeys : Generated → Option (List ℕ) → Type 0
HasKeys g kset = IfSome kset (λ (name : List ℕ). IsTrue (is_some (entry_of g.ksets name)))

-- what every generation keeps
pub record IsSound (g : Generated) : Type 0 where
  pub limits : AreLimits g.limits
  pub names : AreNamed g
  -- the numbers of each entry lie in their ranges
  pub tacs : All IsTacInRange (values_of g.tacs)
  pub users : All IsUserInRange (values_of g.users)
  pub classes : All (λ (tasks : ℕ). tasks ≤ 240) (values_of g.classes)
  pub ksets : All IsKeySetInRange (values_of g.ksets)
  -- no TAC has the class of the other kind
  pub kinds : All (λ (t : TacEntry). IsTrue (fits_kind t)) (values_of g.tacs)
  -- each TAC names a program, and each PTERM an LTERM
  pub programs : All (λ (t : TacEntry). IsTrue (is_some (entry_of g.programs t.program))) (values_of g.tacs)
  pub terminals : All (λ (p : PtermEntry). IsTrue (is_some (lterm_of g p.lterm))) (values_of g.pterms)
  -- each key set of a user or an LTERM is there
  pub user_keys : All (λ (u : UserEntry). HasKeys g u.kset) (values_of g.users)
  pub lterm_keys : All (λ (l : LtermEntry). HasKeys g l.kset) (values_of g.lterms)
  -- no name is both a TAC and an LTERM
  pub apart : All (λ (name : List ℕ). is_some (lterm_of g name) ≡ false) (keys_of g.tacs)
  pub counts : AreCounted g
  -- there is a user, and the pool has a page for each service and each shown message
  pub some_user : 1 ≤ length g.users
  pub pool : restart_count g.users + length g.lterms ≤ g.limits.pgpool
  -- each copy of a double KDCFILE has room for one page more than PGPOOL
  pub double : IfSome g.double (λ (line : ℕ). g.limits.pgpool < 30000)
