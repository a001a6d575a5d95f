-- From a verdict and a run of the interpreter to what an execution did.
use Rattle.std.proofs.Common.{◌≡◌, ℕ, Bool, List, Some, inl, inr, refl, subst}
use Rattle.kt_tree.specs.declared.ast.declaration.File.{File}
use Rattle.kt_model.specs.NameUses.{Resolved}
use Rattle.kt_outside.specs.Outside.{OutputState}
use Rattle.kt_outside.specs.Texts.{IsPrefix}
use Rattle.kt_mean.specs.Evaluation.{Program}
use Rattle.kt_mean.specs.Events.{RunCourse, text_of}
use Rattle.kt_mean.specs.FileRuns.{IsProgram}
use Rattle.kt_mean.specs.Programs.{program_of}
use Rattle.kt_mean.specs.WholeRun.{whole, run_ending}
use Rattle.kt_mean.specs.declared.states.RunEnding.{RunEnding}
use Rattle.kt_mean.specs.declared.states.RunEnding.TheVariants as ending
use Rattle.kt_sound.specs.FileSoundness.{AreBodiesAccepted, HaveProgram, FilesNeverWrong}
use Rattle.kt_check.specs.Violations.{in_file, in_members, in_body}
use Rattle.kt_check.specs.Verdicts.{IsAcceptedFile}
use Rattle.kt_run.specs.Running.{IsNeverWrong, NeverWrong, RunsWhole, RunsOn}
use Rattle.kt_run.specs.declared.run.End.{End}
use Rattle.kt_run.specs.declared.run.End.TheVariants as end
use Rattle.kt_run.proofs.Wholes.{whole_ends}
use Rattle.ktflow.specs.Language.{IsRun}
use Rattle.ktflow.specs.Executing.{Executes, stop_told}
use Rattle.ktflow.specs.Executing as executing
use Rattle.ktflow.proofs.LanguageLaws.{one_run, never_both}

module _ (source : List ℕ) (file : File) (uses : Resolved) (main : ℕ) (a : IsAcceptedFile source file uses main) where
  -- no rule on bodies is violated
  bodies_accepted : AreBodiesAccepted file uses main
  bodies_accepted = record {
    resolved = a.accepted.resolved;
    members = λ f violated. a.accepted.none 5 f (in_file file a.accepted.has_file (in_members f violated));
    is_main = a.is_main;
    bodies = λ place here. record {
      typed = λ f violated. a.accepted.none 9 f (in_file file a.accepted.has_file (in_body f uses place a.accepted.resolved here (inl violated)));
      flows = λ f violated. a.accepted.none 9 f (in_file file a.accepted.has_file (in_body f uses place a.accepted.resolved here (inr violated)));
      entered = (a.settled place here).entered;
      left = (a.settled place here).left;
    };
  }

  module _ (have : HaveProgram) where
    -- the dead trees of an accepted file
    pub dead_trees : ℕ → Bool
    dead_trees = (have file uses main bodies_accepted).1.dead

    -- its program
    abbrev pub program : Program
    program = program_of file uses dead_trees main

    is_program : IsProgram file uses program
    unfolding dead_trees
    is_program = record { dead = dead_trees; main = main; is_main = a.is_main; is_dead = (have file uses main bodies_accepted).1.is_dead; program = refl }

    module _ (never : FilesNeverWrong) (steps : ℕ) where
      pub never_wrong : NeverWrong program steps
      never_wrong input = never file uses main program steps input bodies_accepted is_program

      pub is_never_wrong : IsNeverWrong file uses main steps
      is_never_wrong = record { dead = dead_trees; never_wrong = never_wrong }

      module _ (input : List ℕ) where
        -- the run that ends so
        is_run : (r : RunEnding) → run_ending (whole program steps input).ending ≡ Some r → IsRun source steps input (record { events = (whole program steps input).events; ending = r })
        is_run r e = record { file = file; uses = uses; program = program; accepted = a.accepted; is_program = is_program; events = refl; ending = e }

        runs_whole : (old new : OutputState) (r : RunEnding) → RunsWhole program steps input old new r → executing.RunsWhole source steps input old new r
        runs_whole old new r h = record {
          run = record { events = (whole program steps input).events; ending = r };
          is_run = is_run r h.ending_is;
          ending_is = refl;
          puts = h.puts.puts.appended;
          faults = h.puts.faults;
        }

        -- what the interpreter did is what the execution did
        pub executes_run : (old new : OutputState) (e : End) → RunsOn program steps input old new e → Executes source steps input old new (stop_told e)
        executes_run old new end.Done h = runs_whole old new ending.Done h
        executes_run old new end.Steps h = runs_whole old new ending.Steps h
        executes_run old new end.Calls h = runs_whole old new ending.Calls h
        executes_run old new end.Store h = runs_whole old new ending.Store h
        executes_run old new end.Text h = runs_whole old new ending.Text h
        executes_run old new (end.Uncaught e) h = runs_whole old new (ending.Uncaught e) h
        executes_run old new end.WriteFault h =
            let e = whole_ends program steps input (never_wrong input) in
            record {
              run = record { events = (whole program steps input).events; ending = e.0 };
              is_run = is_run e.0 e.1;
              put = h.put;
              puts = h.appended;
              front = h.front;
              rose = h.rose;
              not_vouched = h.not_vouched;
            }
        executes_run old new end.NoMemory h =
            let e = whole_ends program steps input (never_wrong input) in
            let own = is_run e.0 e.1 in
            record {
              put = h.put;
              puts = h.appended;
              front = λ run other. subst (λ (c : RunCourse). IsPrefix h.put (text_of c.events)) (one_run source steps input _ run own other) h.front;
              none_refused = λ report refused. absurd (never_both source report steps input _ refused own);
              faults = h.faults;
            }
