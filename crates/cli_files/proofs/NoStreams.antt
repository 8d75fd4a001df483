-- No answer that is given instead of a file's contents says that the program's input or output failed.
use Rattle.std.proofs.Common.{◌≡◌, ℕ, List, Option, Result, Ok, Err, inl, inr, refl, arith}
use Rattle.cf_io.specs.Causes.{HasCause}
use Rattle.cf_io.specs.Reads.{FilesSeen}
use Rattle.cli_arguments.specs.Arguments.{NamedLayout, plain, in_file}
use Rattle.cli_files.specs.Causes.{input_answered, output_answered}
use Rattle.cli_files.specs.Layouts.{IsNoLayout, LacksLayout}
use Rattle.cli_files.specs.Loading.{LacksLoaded, LacksLoadedLoosely}
use Rattle.cli_files.specs.LooseLayouts.{IsNoLooseLayout, LacksLooseLayout}
use Rattle.cli_files.specs.Programs.{IsNoProgram, LacksProgram}
use Rattle.cli_files.specs.RunFiles.{RunAsked, LacksRunFile}
use Rattle.cli_files.specs.Scripts.{LacksScript}
use Rattle.cli_files.specs.declared.status.Status.{Status}

-- a count that is unchanged, if there is no error
pub no-cause : (n : ℕ) (r : Result (Unit {0}) (Unit {0})) → r ≡ Ok tt → HasCause n n r
no-cause n (Ok u) h = record { never_falls = omega arith; rose = tt; still = refl }
no-cause n (Err u) h = absurd (cc)

-- the answer does not say that a stream failed
pub record SaysNoStream (answer : Status) : Type 0 where
  pub input : input_answered answer ≡ Ok tt
  pub output : output_answered answer ≡ Ok tt

no-layout-says : (file : List ℕ) (answer : Status) (report : List ℕ) → IsNoLayout file answer report → SaysNoStream answer
no-layout-says file answer report (inl (error, fails, reason, is, reports)) = record { input = rw is; output = rw is }
no-layout-says file answer report (inr (is, reports)) = record { input = rw is; output = rw is }

no-loose-layout-says : (file : List ℕ) (answer : Status) (report : List ℕ) → IsNoLooseLayout file answer report → SaysNoStream answer
no-loose-layout-says file answer report (inl (error, fails, reason, is, reports)) = record { input = rw is; output = rw is }
no-loose-layout-says file answer report (inr (is, reports)) = record { input = rw is; output = rw is }

no-program-says : (image : List ℕ) (answer : Status) (report : List ℕ) → IsNoProgram image answer report → SaysNoStream answer
no-program-says image answer report (inl (error, refused, is, reports)) = record { input = rw is; output = rw is }
no-program-says image answer report (inr (program, (is, reports))) = record { input = rw is; output = rw is }

pub lacks-layout-says : (argument : NamedLayout) (before after : Option FilesSeen) (answer : Status) (report : List ℕ) →
    LacksLayout argument before after answer report → SaysNoStream answer
lacks-layout-says plain before after answer report h = absurd h
lacks-layout-says (in_file name) before after answer report (inl r) = no-layout-says r.file answer report r.why
lacks-layout-says (in_file name) before after answer report (inr (inl r)) =
    record { input = rw r.status_is; output = rw r.status_is }
lacks-layout-says (in_file name) before after answer report (inr (inr r)) =
    record { input = rw r.status_is; output = rw r.status_is }

lacks-loose-layout-says : (argument : NamedLayout) (before after : Option FilesSeen) (answer : Status) (report : List ℕ) →
    LacksLooseLayout argument before after answer report → SaysNoStream answer
lacks-loose-layout-says plain before after answer report h = absurd h
lacks-loose-layout-says (in_file name) before after answer report (inl r) = no-loose-layout-says r.file answer report r.why
lacks-loose-layout-says (in_file name) before after answer report (inr (inl r)) =
    record { input = rw r.status_is; output = rw r.status_is }
lacks-loose-layout-says (in_file name) before after answer report (inr (inr r)) =
    record { input = rw r.status_is; output = rw r.status_is }

pub lacks-program-says : (name : List ℕ) (before after : Option FilesSeen) (answer : Status) (report : List ℕ) →
    LacksProgram name before after answer report → SaysNoStream answer
lacks-program-says name before after answer report (inl r) = no-program-says r.image answer report r.why
lacks-program-says name before after answer report (inr (inl r)) =
    record { input = rw r.status_is; output = rw r.status_is }
lacks-program-says name before after answer report (inr (inr r)) =
    record { input = rw r.status_is; output = rw r.status_is }

lacks-script-says : (name : List ℕ) (before after : Option FilesSeen) (answer : Status) (report : List ℕ) →
    LacksScript name before after answer report → SaysNoStream answer
lacks-script-says name before after answer report (inl r) =
    record { input = rw r.status_is; output = rw r.status_is }
lacks-script-says name before after answer report (inr (inl r)) =
    record { input = rw r.status_is; output = rw r.status_is }
lacks-script-says name before after answer report (inr (inr r)) =
    record { input = rw r.status_is; output = rw r.status_is }

pub lacks-loaded-says : (layout : NamedLayout) (program : List ℕ) (before after : Option FilesSeen) (answer : Status)
    (report : List ℕ) → LacksLoaded layout program before after answer report → SaysNoStream answer
lacks-loaded-says layout program before after answer report (inl h) =
    lacks-layout-says layout before after answer report h
lacks-loaded-says layout program before after answer report (inr h) =
    lacks-program-says program h.between after answer report h.lacks

pub lacks-loosely-says : (layout : NamedLayout) (program : List ℕ) (before after : Option FilesSeen) (answer : Status)
    (report : List ℕ) → LacksLoadedLoosely layout program before after answer report → SaysNoStream answer
lacks-loosely-says layout program before after answer report (inl h) =
    lacks-loose-layout-says layout before after answer report h
lacks-loosely-says layout program before after answer report (inr h) =
    lacks-program-says program h.between after answer report h.lacks

pub lacks-file-says : (asked : RunAsked) (before after : Option FilesSeen) (answer : Status) (report : List ℕ) →
    LacksRunFile asked before after answer report → SaysNoStream answer
lacks-file-says asked before after answer report (inl h) =
    lacks-loaded-says asked.layout asked.program before after answer report h
lacks-file-says asked before after answer report (inr h) =
    lacks-script-says h.lacks.file h.between after answer report h.lacks.lacks
