-- How what a run answered and wrote fits its session.
use Rattle.std.specs.Prelude.{◌≡◌, ℕ, false, List, [], ◌++◌, ◌<◌, drop, length, take, Option, Some, None, Result, Ok, Err, OnOk}
use Rattle.std.specs.FinMap.{get}
use Rattle.std.specs.Io.KnownBytes.{Keeps, Appends, Consumes, IsAtEnd}
use Rattle.std.specs.List.{list_any}
use Rattle.jiff.specs.Types.{DateTime}
use Rattle.cookie.specs.History.{after_all}
use Rattle.cookie.specs.Jar.{Name, JarState, Change}
use Rattle.cookie_client.specs.Agreement.{Agrees, HoldsOriginal, alters_original}
use Rattle.cookie_client.specs.Client.{ReadsBack, Values}
use Rattle.cookie_client.specs.Lines.{lines_of}
use Rattle.cookie_client.specs.Originals.{client_of_line, jar_of_line}
use Rattle.cookie_client.specs.Session.{Fault, BadMoment, BadInput, BadLine, changes_in, cookie_line, delta_texts, header_line, moment_of, session, set_cookie_lines}
use Rattle.cookie_client.specs.declared.run_error.RunError.{RunError}
use Rattle.cookie_client.specs.declared.run_error.RunError.TheVariants as refusal

-- the bytes are what was read of a reader, up to its end
abbrev pub IsRead : Option (List ℕ) → Option (List ℕ) → List ℕ → Type 0
IsRead old new bytes = Consumes old new bytes × IsAtEnd new

-- a session at a good moment refuses so, or memory ran out
abbrev pub Refuses : {A : Type 0} → Result A Fault → RunError → Type 0
Refuses session refusal.BadMoment = ⊥
Refuses session refusal.BadInput = session ≡ Err BadInput
Refuses session (refusal.BadLine line) = session ≡ Err (BadLine line)
Refuses session refusal.OutOfMemory = Unit {0}
Refuses session refusal.Input = ⊥
Refuses session refusal.Output = ⊥

-- the bytes that were written are a beginning of the text, and not the whole
abbrev pub StopsShort : Option (List ℕ) → Option (List ℕ) → List ℕ → Type 0
StopsShort old new text = (n : ℕ) × (n < length text) × Appends old new (take n text)

-- The answer is that of the session for the bytes read, and at Ok exactly its text was written. After
-- Output a beginning of its text was written that isn't the whole, and after any other refusal nothing.
abbrev pub IsPlayed : {T : Type 0} → List ℕ → (List ℕ → Type 0) → Option (List ℕ) → Option (List ℕ)
    → Result T RunError → Type 0
IsPlayed moment is_read old new (Ok _) =
    (bytes : List ℕ) × is_read bytes
    × (text : List ℕ) × (session moment bytes ≡ Ok text) × Appends old new text
IsPlayed moment is_read old new (Err refusal.Output) =
    (bytes : List ℕ) × is_read bytes
    × (text : List ℕ) × (session moment bytes ≡ Ok text) × StopsShort old new text
IsPlayed moment is_read old new (Err refusal.BadMoment) =
    ((bytes : List ℕ) → session moment bytes ≡ Err BadMoment) × Keeps old new
IsPlayed moment is_read old new (Err refusal.BadInput) =
    (bytes : List ℕ) × is_read bytes × (session moment bytes ≡ Err BadInput) × Keeps old new
IsPlayed moment is_read old new (Err (refusal.BadLine line)) =
    (bytes : List ℕ) × is_read bytes × (session moment bytes ≡ Err (BadLine line)) × Keeps old new
IsPlayed moment is_read old new (Err refusal.OutOfMemory) = Keeps old new
IsPlayed moment is_read old new (Err refusal.Input) = Keeps old new

-- The text is the delta of a jar and the header of a client that agrees with it.
pub record IsOfAgreement (now : DateTime) (lines : List (List ℕ)) (text : List ℕ) : Type 0 where
  -- what the lines after the first ask for
  pub changes : List Change
  pub asked : changes_in now 2 (drop 1 lines) ≡ Ok changes
  -- was made to a new jar, whose originals are the cookies of the first line
  pub jar : JarState
  pub made : jar ≡ after_all changes (jar_of_line (header_line lines))
  -- a client that held these cookies agrees with the jar
  pub client : Values
  pub agreement : Agrees now (client_of_line (header_line lines)) changes jar client
  -- which held the jar's original of each name that no line removes by force
  pub held : (name : Name) → list_any (alters_original name) changes ≡ false
      → HoldsOriginal (client_of_line (header_line lines)) jar name
  -- and which holds nothing under the empty name, so that its header is read back as its names and values
  pub named : get client [] ≡ None
  pub reads_back : ReadsBack client
  -- and the text is the jar's delta and that client's header
  pub written : text ≡ set_cookie_lines (delta_texts jar) ++ cookie_line client

-- At Ok, what was written is of such an agreement (clause `agreement` of `run`).
abbrev pub IsAgreed : {T : Type 0} → List ℕ → (List ℕ → Type 0) → Option (List ℕ) → Option (List ℕ)
    → Result T RunError → Type 0
IsAgreed moment is_read old new result = OnOk result (
    (now : DateTime) × (moment_of moment ≡ Some now) × (bytes : List ℕ) × is_read bytes
    × (text : List ℕ) × IsOfAgreement now (lines_of bytes) text × Appends old new text)

-- What a run returns, reads and writes. `remaining` is what a reader has left, and `contents` what a writer has got.
pub record PlaysSession {T I O : Type 0} (moment : List ℕ) (remaining : I → Option (List ℕ))
    (contents : O → Option (List ℕ)) (input input' : I) (output output' : O)
    (result : Result T RunError)
    : Type 0 where
  -- it returns what the session of the moment and of the input's bytes is, and writes its text
  pub played : IsPlayed moment (IsRead (remaining input) (remaining input')) (contents output)
      (contents output') result
  -- the client whose header is written agrees with the jar whose delta is written
  pub agreement : IsAgreed moment (IsRead (remaining input) (remaining input')) (contents output)
      (contents output') result
  -- a bad moment is reported before anything is read
  pub bad_moment : moment_of moment ≡ None
      → (result ≡ Err refusal.BadMoment) × (input' ≡ input) × (output' ≡ output)
