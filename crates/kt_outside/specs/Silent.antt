-- Objects that tell nothing and vouch for nothing, as the real ones: all that is known of one is its count of faults.
use Rattle.std.specs.Prelude.{ℕ, None, false}
use Rattle.kt_outside.specs.Outside.{LibraryState, InputState, OutputState}

abbrev pub silent_library : ℕ → LibraryState
silent_library faults = record { told = λ name. None; vouches = λ name. false; faults = faults }

abbrev pub silent_input : ℕ → InputState
silent_input faults = record { left = None; vouches = false; faults = faults }

abbrev pub silent_output : ℕ → OutputState
silent_output faults = record { written = None; vouched = 0; faults = faults }
