-- The whole program, of its words, the bytes of FILE and the bytes of the input. This project's own; of the language it knows only
-- which sources are refused and what a run is.
use Rattle.std.specs.Prelude.{◌≡◌, ℕ, ◌+◌, ◌*◌, ◌-◌, List, [], ◌∷◌, length, take, Option, Some, None, codes, bytes_eq, nat_le, ◌&&◌, if◌then◌else◌, option_map}
use Rattle.kt_mean.specs.Events.{RunCourse}
use Rattle.ktflow.specs.Course.{Usage, Refused, Course, ended, course_of_run}
use Rattle.ktflow.specs.Language.{IsRefused, IsRun}

-- a run of a file with so many steps
pub record Request : Type 0 where
  pub file : List ℕ
  pub steps : ℕ

-- the number, none where a byte is no digit; what is past the range stays past it, so the reading may stop there
abbrev pub decimal_from : ℕ → List ℕ → Option ℕ
decimal_from n [] = Some n
decimal_from n (b ∷ bytes) = if nat_le n 1000000000 && (nat_le 48 b && nat_le b 57) then decimal_from (10 * n + (b - 48)) bytes else None

abbrev pub in_range : Option ℕ → Option ℕ
in_range None = None
in_range (Some n) = if nat_le 1 n && nat_le n 1000000000 then Some n else None

-- one to ten digits with a value from 1 to 1,000,000,000
abbrev pub steps_of : List ℕ → Option ℕ
steps_of word = if nat_le (length word) 10 then in_range (decimal_from 0 word) else None

abbrev pub request_with : List ℕ → Option ℕ → Option Request
request_with file None = None
request_with file (Some n) = Some (record { file = file; steps = n })

-- `run FILE`, with 1,000,000 steps, and `run --steps N FILE`; FILE is any word
abbrev pub request_of : List (List ℕ) → Option Request
request_of (run ∷ file ∷ []) = if bytes_eq run (codes "run") then Some (record { file = file; steps = 1000000 }) else None
request_of (run ∷ option ∷ n ∷ file ∷ []) = if bytes_eq run (codes "run") && bytes_eq option (codes "--steps") then request_with file (steps_of n) else None
request_of [] = None
request_of (a ∷ []) = None
request_of (a ∷ b ∷ c ∷ []) = None
request_of (a ∷ b ∷ c ∷ d ∷ e ∷ more) = None

-- the name of FILE, where the words have one
abbrev pub file_of : List (List ℕ) → Option (List ℕ)
file_of words = option_map (λ r. r.file) (request_of words)

-- how many bytes of a source count: one more than it may have
abbrev pub most_fetched : ℕ
most_fetched = 1048577

-- the bytes of FILE that count
abbrev pub counted : List ℕ → List ℕ
counted source = take most_fetched source

-- This is a course of the call with these words, where FILE has the bytes `source`.
pub data HasCourse (words : List (List ℕ)) (source input : List ℕ) (course : Course) : Type 0 where
  usage : request_of words ≡ None → course ≡ ended Usage → HasCourse words source input course
  refused : (request : Request) (report : List ℕ) → request_of words ≡ Some request → IsRefused (counted source) report → course ≡ ended (Refused report) → HasCourse words source input course
  ran : (request : Request) (run : RunCourse) → request_of words ≡ Some request → IsRun (counted source) request.steps input run → course ≡ course_of_run run → HasCourse words source input course

-- A call has at most one course.
abbrev pub OneCourse : Type 0
OneCourse = (words : List (List ℕ)) (source input : List ℕ) (course other : Course) → HasCourse words source input course → HasCourse words source input other → course ≡ other
