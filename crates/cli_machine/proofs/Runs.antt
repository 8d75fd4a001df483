-- What a step adds to a run: one more instruction, or its end.
use Rattle.std.proofs.Common.{◌≡◌, ℕ, zero, suc, ◌+◌, ◌<◌, List, [], ◌++◌, Bool, true, false, Option, Some, None, refl, ap, sym, ◌∙◌, subst}
use Rattle.std.proofs.Common.{add-one, ◌-◌, arith}
use Rattle.std.specs.Prelude.{unwrap_or}
use Rattle.cf_io.specs.Puts.{Writes, WritesFront, WritesNothing}
use Rattle.cf_io.proofs.Owing.{writes-nothing, writes-again}
use Rattle.cf_report.proofs.Parts.{text-before}
use Rattle.rv_inst.specs.declared.isa.Isa.{Isa}
use Rattle.rv_machine.specs.declared.outcome.Retired.{Retired}
use Rattle.rv_machine.specs.declared.outcome.Stepped.TheVariants as stepped
use Rattle.rv_machine.specs.Hart.{Hart}
use Rattle.rv_machine.specs.Machine.{Machine}
use Rattle.rv_machine.specs.Streams.{Streams, IsTold, Leaves}
use Rattle.rv_machine.specs.Outcome.{Outcome, Next, Trap, Exit}
use Rattle.rv_machine.specs.Step.{step, step_on, after_output}
use Rattle.rv_machine.specs.After.{after}
use Rattle.rv_machine.specs.Acts.{Acts, StopsUnchanged, Steps}
use Rattle.rv_machine.specs.Quick.{RetireAlone}
use Rattle.rv_machine.proofs.Steps.{retire-none, steps-alone}
use Rattle.rv_machine.proofs.InputKnown.{rest-told, stays, leaves-again}
use Rattle.cli_machine.specs.Options.{Chosen, is_shown, shown_text, is_silent}
use Rattle.run_finishes.specs.declared.finish.Ran.{Ran}
use Rattle.run_finishes.specs.declared.finish.Ran.TheVariants as ran
use Rattle.cli_machine.specs.Lines.{retired_texts, outcome_text, LeadsBy, ReachesBy}
use Rattle.cli_machine.specs.Finish.{opening, Finishes, Closes, Runs, BreaksOff, StopsBefore}

-- what is known of a run so far: the streams before it and now, and the report before it and now
pub record Told : Type 0 where
  pub before : Streams
  pub after : Streams
  pub blank : Option (List ℕ)
  pub full : Option (List ℕ)

abbrev pub told_of : Streams → Streams → Option (List ℕ) → Option (List ℕ) → Told
told_of before after blank full =
    record { before = before; after = after; blank = blank; full = full }

-- a run so far: n instructions from the start to this hart, and what the streams and the report expose now
pub record Reached (c : Chosen) (start now : Hart) (t : Told) (n : ℕ) : Type 0 where
  pub last : Machine
  pub lines : List ℕ
  pub reaches : ReachesBy c t.before.input (opening start t.before.input) n last lines
  pub hart : now ≡ last.hart
  pub streams : Leaves t.before t.after last.rest last.output
  pub report : Writes t.blank t.full lines

-- before the first step
reaches-none : (c : Chosen) (start : Hart) (left : Option (List ℕ)) →
    ReachesBy c left (opening start left) 0 (opening start left) []
unfolding after LeadsBy retired_texts
reaches-none c start None = (record { hart = refl; output = refl }, refl)
reaches-none c start (Some told) = (refl, refl)

pub reached-none : (c : Chosen) (start : Hart) (s : Streams) (report : Option (List ℕ)) →
    Reached c start start (told_of s s report report) 0
reached-none c start s report = record {
  last = opening start s.input;
  lines = [];
  reaches = reaches-none c start s.input;
  hart = refl;
  streams = stays s (unwrap_or s.input []) (rest-told s.input);
  report = writes-nothing report;
}

-- over an input that does not expose its remaining bytes, the machine may have any rest
leads-rest : (c : Chosen) (start m : Machine) (n : ℕ) (lines rest : List ℕ) →
    LeadsBy c start n m lines → LeadsBy c start n (record m { rest = rest }) lines
unfolding LeadsBy
leads-rest c start m zero lines rest (same, none) =
    (record { hart = same.hart; output = same.output }, none)
leads-rest c start m (suc n) lines rest (before, earlier, line, next, leads, steps, same, all) =
    (before, earlier, line, next, leads, steps, record { hart = same.hart; output = same.output }, all)

-- a run so far whose machine has the rest that the next step finds
record Finds (c : Chosen) (start now : Hart) (t : Told) (n : ℕ) (rest : List ℕ) : Type 0 where
  pub machine : Machine
  pub lines : List ℕ
  pub reaches : ReachesBy c t.before.input (opening start t.before.input) n machine lines
  pub hart : machine.hart ≡ now
  pub rest_is : machine.rest ≡ rest
  pub streams : Leaves t.before t.after machine.rest machine.output
  pub report : Writes t.blank t.full lines

-- if the input exposed its remaining bytes, the step finds these
told-rest : (told : Option (List ℕ)) (a b : List ℕ) → told ≡ Some a → IsTold told b → a ≡ b
told-rest None a b e h = absurd (cc)
told-rest (Some told) a b e h = cc

found : (c : Chosen) (start now : Hart) (input output : Option (List ℕ)) (after : Streams)
    (blank full : Option (List ℕ)) (n : ℕ) (rest : List ℕ) →
    Reached c start now (told_of (record { input = input; output = output }) after blank full) n →
    IsTold after.input rest →
    Finds c start now (told_of (record { input = input; output = output }) after blank full) n rest
found c start now None output after blank full n rest run told = record {
  machine = record run.last { rest = rest };
  lines = run.lines;
  reaches = leads-rest c _ run.last n run.lines rest run.reaches;
  hart = sym run.hart;
  rest_is = refl;
  streams = record { input = tt; output = run.streams.output };
  report = run.report;
}
found c start now (Some left) output after blank full n rest run told = record {
  machine = run.last;
  lines = run.lines;
  reaches = run.reaches;
  hart = sym run.hart;
  rest_is = told-rest after.input run.last.rest rest run.streams.input told;
  streams = run.streams;
  report = run.report;
}

finds : (c : Chosen) (start now : Hart) (t : Told) (n : ℕ) (rest : List ℕ) →
    Reached c start now t n → IsTold t.after.input rest → Finds c start now t n rest
finds c start now t n rest run told =
    found c start now t.before.input t.before.output t.after t.blank t.full n rest run told

-- the step of a machine, from what its hart does on its rest
step-is : (isa : Isa) (m : Machine) (now : Hart) (rest : List ℕ) (o : Outcome Machine) →
    m.hart ≡ now → m.rest ≡ rest → step_on isa now rest ≡ o → step isa m ≡ after_output m.output o
unfolding step
step-is isa m now rest o h r e =
    let on_rest : step_on isa now m.rest ≡ o =
    subst (λ (x : List ℕ). step_on isa now x ≡ o) (sym r) e in
    ap (after_output m.output) (subst (λ (x : Hart). step_on isa x m.rest ≡ o) (sym h) on_rest)

-- one more instruction, and what is shown of it
reaches-next : (c : Chosen) (left : Option (List ℕ)) (start m next : Machine) (n : ℕ)
    (line : Retired) (lines : List ℕ) → ReachesBy c left start n m lines →
    step c.isa m ≡ Next next line →
    ReachesBy c left start (n + 1) next (lines ++ outcome_text c (Next next line))
unfolding after LeadsBy retired_texts
reaches-next c None start m next n line lines h e =
    rw add-one (m, lines, line, next, h, e, record { hart = refl; output = refl }, refl)
reaches-next c (Some told) start m next n line lines h e = (
  rw (add-one, h.0, e) refl,
  rw (add-one, h.0, e) (ap (λ (z : List ℕ). z ++ outcome_text c (Next next line)) h.1),
)

-- what a step that retires an instruction adds
record Adds (c : Chosen) (start now new : Hart) (t : Told) (later : Streams) (n : ℕ)
    (line : Retired) : Type 0 where
  pub last : Machine
  pub lines : List ℕ
  pub reaches : ReachesBy c t.before.input (opening start t.before.input) n last lines
  pub next : Machine
  pub is : step c.isa last ≡ Next next line
  pub hart : new ≡ next.hart
  pub streams : Leaves t.before later next.rest next.output
  pub report : Writes t.blank t.full lines

adds : (c : Chosen) (start now new : Hart) (t : Told) (later : Streams) (n : ℕ) (line : Retired) →
    Reached c start now t n → Steps c.isa now new t.after later (stepped.Next line) →
    Adds c start now new t later n line
unfolding Acts
adds c start now new t later n line run steps =
    let f : Finds c start now t n steps.rest = finds c start now t n steps.rest run steps.told in
    let m : Machine = f.machine in
    record {
      last = m;
      lines = f.lines;
      reaches = f.reaches;
      next = record steps.next { output = m.output ++ steps.next.output };
      is = step-is c.isa m now steps.rest _ f.hart f.rest_is steps.is;
      hart = steps.hart;
      streams = leaves-again t.before t.after later m.rest steps.next.rest m.output
          steps.next.output f.streams steps.leaves;
      report = f.report;
    }

-- the count after a step
count-is : (count : ℕ) (new : Hart) (next : Machine) → count ≡ new.retired → new ≡ next.hart → count ≡ next.hart.retired
count-is count new next e h = e ∙ ap (λ (x : Hart). x.retired) h

-- a step goes on
pub reached-next : (c : Chosen) (start now new : Hart) (before between after : Streams)
    (blank half full : Option (List ℕ)) (n count : ℕ) (line : Retired) →
    Reached c start now (told_of before between blank half) n →
    Steps c.isa now new between after (stepped.Next line) → count ≡ new.retired →
    Writes half full (shown_text c.shows c.every count line) →
    Reached c start new (told_of before after blank full) (n + 1)
reached-next c start now new before between after blank half full n count line run steps e put =
    let a : Adds c start now new (told_of before between blank half) after n line =
    adds c start now new (told_of before between blank half) after n line run steps in
    let here : Writes half full (outcome_text c (Next a.next line)) =
    subst (λ (k : ℕ). Writes half full (shown_text c.shows c.every k line)) (count-is count new a.next e a.hart) put in
    record {
      last = a.next;
      lines = a.lines ++ outcome_text c (Next a.next line);
      reaches = reaches-next c before.input _ a.last a.next n line a.lines a.reaches a.is;
      hart = a.hart;
      streams = a.streams;
      report = writes-again blank half full _ _ a.report here;
    }

-- the report fails at what is shown of a step
pub breaks-off : (c : Chosen) (start now new : Hart) (before between after : Streams)
    (blank half full : Option (List ℕ)) (n count : ℕ) (line : Retired) → n < c.limit →
    Reached c start now (told_of before between blank half) n →
    Steps c.isa now new between after (stepped.Next line) → count ≡ new.retired →
    is_shown c.shows c.every count ≡ true → WritesFront half full (shown_text c.shows c.every count line) →
    BreaksOff c start new before after blank full
breaks-off c start now new before between after blank half full n count line below run steps e shows front =
    let a : Adds c start now new (told_of before between blank half) after n line =
    adds c start now new (told_of before between blank half) after n line run steps in
    let same = count-is count new a.next e a.hart in
    record {
      count = n;
      within = below;
      last = a.last;
      text = a.lines;
      reaches = a.reaches;
      next = a.next;
      line = line;
      is = a.is;
      hart = a.hart;
      streams = a.streams;
      half = half;
      put = a.report;
      shows = subst (λ (k : ℕ). is_shown c.shows c.every k ≡ true) same shows;
      breaks = subst (λ (k : ℕ). WritesFront half full (shown_text c.shows c.every k line)) same front;
    }

-- the report passed on what it had gathered
pub reached-passed : (c : Chosen) (start now : Hart) (before after : Streams) (blank half full : Option (List ℕ)) (n : ℕ) →
    Reached c start now (told_of before after blank half) n → WritesNothing half full → Reached c start now (told_of before after blank full) n
reached-passed c start now before after blank half full n run same = record {
  last = run.last;
  lines = run.lines;
  reaches = run.reaches;
  hart = run.hart;
  streams = run.streams;
  report = text-before blank half full run.lines run.report same;
}

-- or failed to pass it on
pub stops-before : (c : Chosen) (start now : Hart) (before after : Streams) (blank half full : Option (List ℕ)) (n : ℕ) → n < c.limit →
    Reached c start now (told_of before after blank half) n → WritesNothing half full → StopsBefore c start now before after blank full
stops-before c start now before after blank half full n below run same = record {
  count = n;
  within = below;
  last = run.last;
  text = run.lines;
  reaches = run.reaches;
  hart = run.hart;
  streams = run.streams;
  put = text-before blank half full run.lines run.report same;
}

-- a run that has ended, and its lines were written
abbrev pub Ended : Chosen → Hart → Hart → Told → Ran → Type 0
Ended c start new t end =
    (text : List ℕ) × Runs c start new t.before t.after end text × Writes t.blank t.full text

-- a step that leaves all unchanged ends the run, as its outcome says
ends : (c : Chosen) (start now new : Hart) (before between after : Streams)
    (blank full : Option (List ℕ)) (n : ℕ) (o : Outcome Machine) (end : Ran) →
    Reached c start now (told_of before between blank full) n →
    now.retired ≡ start.retired + n → StopsUnchanged (step_on c.isa now) o now new between after →
    ((m : Machine) (lines : List ℕ) →
    ReachesBy c before.input (opening start before.input) n m lines →
    step c.isa m ≡ after_output m.output o →
    Finishes c before.input (opening start before.input) end n m lines) →
    ((last : Hart) → new ≡ last → Closes c.isa end last new between after) →
    Ended c start new (told_of before after blank full) end
ends c start now new before between after blank full n o end run count stops finishes closes =
    let f : Finds c start now (told_of before between blank full) n stops.rest =
    finds c start now (told_of before between blank full) n stops.rest run stops.told in
    let m : Machine = f.machine in (
      f.lines,
      record {
        count = n;
        last = m;
        finishes = finishes m f.lines f.reaches (step-is c.isa m now stops.rest o f.hart f.rest_is stops.is);
        retired = ap (λ (h : Hart). h.retired) stops.hart ∙ count;
        between = between;
        streams = f.streams;
        closes = closes m.hart (stops.hart ∙ sym f.hart);
      },
      f.report,
    )

-- the program ends itself
pub runs-exit : (c : Chosen) (start now new : Hart) (before between after : Streams)
    (blank full : Option (List ℕ)) (n status : ℕ) →
    Reached c start now (told_of before between blank full) n → n < c.limit →
    now.retired ≡ start.retired + n → Steps c.isa now new between after (stepped.Exit status) →
    Ended c start new (told_of before after blank full) (ran.Exit status)
unfolding Acts
runs-exit c start now new before between after blank full n status run below count steps =
    ends c start now new before between after blank full n (Exit status) (ran.Exit status)
    run count steps (λ m lines reaches is. (below, reaches, is)) (λ last same. (same, steps.streams))

-- the instruction traps
pub runs-trap : (c : Chosen) (start now new : Hart) (before between after : Streams)
    (blank full : Option (List ℕ)) (n cause pc detail : ℕ) →
    Reached c start now (told_of before between blank full) n → n < c.limit →
    now.retired ≡ start.retired + n →
    Steps c.isa now new between after (stepped.Trap cause pc detail) →
    Ended c start new (told_of before after blank full) (ran.Trap cause pc detail)
unfolding Acts
runs-trap c start now new before between after blank full n cause pc detail run below count steps =
    ends c start now new before between after blank full n (Trap cause pc detail)
    (ran.Trap cause pc detail) run count steps (λ m lines reaches is. (below, reaches, is))
    (λ last same. (same, steps.streams))

-- a stream fails the instruction
fails : (c : Chosen) (start now new : Hart) (before between after : Streams)
    (blank full : Option (List ℕ)) (n : ℕ) (end : Ran) →
    Reached c start now (told_of before between blank full) n →
    now.retired ≡ start.retired + n → new.retired ≡ now.retired →
    ((m : Machine) (lines : List ℕ) →
    ReachesBy c before.input (opening start before.input) n m lines →
    Finishes c before.input (opening start before.input) end n m lines) →
    Closes c.isa end now new between after →
    Ended c start new (told_of before after blank full) end
fails c start now new before between after blank full n end run count same finishes closes =
    let P : Hart → Type 0 = λ h. Closes c.isa end h new between after in (
      run.lines,
      record {
        count = n;
        last = run.last;
        finishes = finishes run.last run.lines run.reaches;
        retired = same ∙ count;
        between = between;
        streams = run.streams;
        closes = subst P run.hart closes;
      },
      run.report,
    )

-- the input fails it
pub runs-read-fault : (c : Chosen) (start now new : Hart) (before between after : Streams)
    (blank full : Option (List ℕ)) (n : ℕ) →
    Reached c start now (told_of before between blank full) n → n < c.limit →
    now.retired ≡ start.retired + n → Steps c.isa now new between after stepped.ReadFault →
    Ended c start new (told_of before after blank full) ran.ReadFault
unfolding Acts
runs-read-fault c start now new before between after blank full n run below count steps =
    fails c start now new before between after blank full n ran.ReadFault run count
    (ap (λ (h : Hart). h.retired) steps.2) (λ m lines reaches. (below, reaches)) steps

-- the output fails it
pub runs-write-fault : (c : Chosen) (start now new : Hart) (before between after : Streams)
    (blank full : Option (List ℕ)) (n : ℕ) →
    Reached c start now (told_of before between blank full) n → n < c.limit →
    now.retired ≡ start.retired + n → Steps c.isa now new between after stepped.WriteFault →
    Ended c start new (told_of before after blank full) ran.WriteFault
unfolding Acts
runs-write-fault c start now new before between after blank full n run below count steps =
    fails c start now new before between after blank full n ran.WriteFault run count
    (ap (λ (h : Hart). h.retired) steps.2) (λ m lines reaches. (below, reaches)) steps

-- instructions that need no stream, one after another, if nothing is shown
silent-text : (shows : Bool) (every : Option ℕ) (n : ℕ) (line : Retired) → is_silent shows every ≡ true → shown_text shows every n line ≡ []
silent-text true every n line e = absurd (cc)
silent-text false None n line e = refl
silent-text false (Some step) n line e = absurd (cc)

reached-alone-by : (c : Chosen) (start old now : Hart) (before after : Streams) (blank full : Option (List ℕ)) (n k : ℕ) →
    is_silent c.shows c.every ≡ true → Reached c start old (told_of before after blank full) n → RetireAlone old k now →
    Reached c start now (told_of before after blank full) (n + k)
unfolding RetireAlone
reached-alone-by c start old now before after blank full n zero silent run e =
    let none : n + zero ≡ n = omega arith in
    rw none (subst (λ (h : Hart). Reached c start h (told_of before after blank full) n) (sym e) run)
reached-alone-by c start old now before after blank full n (suc k) silent run (between, earlier, step) =
    let more : n + suc k ≡ n + k + 1 = omega arith in
    rw more
    (reached-next c start between now before after after blank full full (n + k) now.retired step.line
    (reached-alone-by c start old between before after blank full n k silent run earlier)
    (steps-alone c.isa between now after step) refl
    (rw (silent-text c.shows c.every now.retired step.line silent) (writes-nothing full)))

pub reached-alone : (c : Chosen) (start old now : Hart) (before after : Streams) (blank full : Option (List ℕ)) (n : ℕ) (b : Bool) →
    is_silent c.shows c.every ≡ b → (b ≡ false → now ≡ old) → Reached c start old (told_of before after blank full) n →
    RetireAlone old (now.retired - old.retired) now →
    Reached c start now (told_of before after blank full) (n + (now.retired - old.retired))
reached-alone c start old now before after blank full n true silent same run alone =
    reached-alone-by c start old now before after blank full n (now.retired - old.retired) silent run alone
reached-alone c start old now before after blank full n false silent same run alone =
    let count : now.retired ≡ old.retired = ap (λ (h : Hart). h.retired) (same refl) in
    let none : n + (now.retired - old.retired) ≡ n = omega (arith, count) in
    rw none (subst (λ (h : Hart). Reached c start h (told_of before after blank full) n) (sym (same refl)) run)

-- the limit is reached
pub runs-limit : (c : Chosen) (start now : Hart) (before after : Streams)
    (blank full : Option (List ℕ)) (n : ℕ) →
    Reached c start now (told_of before after blank full) n → n ≡ c.limit →
    now.retired ≡ start.retired + n →
    Ended c start now (told_of before after blank full) ran.Limit
runs-limit c start now before after blank full n run e count = (
  run.lines,
  record {
    count = n;
    last = run.last;
    finishes = (e, run.reaches);
    retired = count;
    between = after;
    streams = run.streams;
    closes = (run.hart, refl);
  },
  run.report,
)

pub ruleset standing = (retire-none)
