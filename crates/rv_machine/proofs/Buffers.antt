-- A read leaves the bytes that were taken at the start of its buffer, and the old bytes after them.
use Rattle.std.proofs.Common.{◌≡◌, ◌∙◌, ℕ, ◌+◌, ◌-◌, ◌≤◌, List, [], ◌∷◌, ◌++◌, Bool, true, false, Option, Some, None, Result, Ok, Err, IsTrue, length, take, drop, find, cond, refl, ap, sym, arith, append_assoc}
use Rattle.std.specs.Prelude.{IfOk, OnErr}
use Rattle.std.specs.Option.{option_map}
use Rattle.std.proofs.lemmas.List.{length-take-le, length-drop, take-append-drop, drop-append-le, drop-drop}
use Rattle.std.proofs.lemmas.Bool.Decides.{nat_tests}
use Rattle.cf_io.specs.Takes.{TakesSome, TakesAll, GivesFront}
use Rattle.mem_regions.specs.Area.{Area}
use Rattle.mem_regions.specs.Memory.{Memory}
use Rattle.mem_regions.specs.Ranges.{lies_in, writes_in, bytes_in, writable_of}
use Rattle.mem_regions.specs.Writing.{overwritten, area_with, first_changed, memory_with}
use Rattle.mem_regions.proofs.Writes.{writes-lies}
use Rattle.rv_machine.specs.Streams.{GivesInput}
use Rattle.rv_machine.specs.Buffers.{TakesInto, Fills, FillsSome}

-- a part and what comes after it are the part's prefix and what comes after that, if the part has the old bytes after
-- its prefix
tail-kept : (bytes new : List ℕ) (at len n : ℕ) → at + len ≤ length bytes → length new ≡ len →
    n ≤ len → drop n new ≡ drop n (take len (drop at bytes)) →
    new ++ drop (at + length new) bytes ≡ take n new ++ drop (at + length (take n new)) bytes
tail-kept bytes new at len n within size some same =
    let part : List ℕ = take len (drop at bytes) in
    let room : n ≤ length part = omega (arith, length-take-le len (drop at bytes), length-drop at bytes) in
    let following : drop n part ++ drop (at + len) bytes ≡ drop (at + n) bytes =
    rw (
      ← drop-drop len at bytes,
      ← drop-append-le n part (drop len (drop at bytes)) room,
      take-append-drop len (drop at bytes),
    ) (drop-drop n at bytes) in
    let front : length (take n new) ≡ n = length-take-le n new (omega (arith, size, some)) in
    rw (size, front, ← following, ← same, ← append_assoc (take n new) (drop n new) (drop (at + len) bytes), take-append-drop n new) refl

-- writing such a part over a slice means writing its prefix
overwritten-front : (bytes new : List ℕ) (at len n : ℕ) → at + len ≤ length bytes →
    length new ≡ len → n ≤ len → drop n new ≡ drop n (take len (drop at bytes)) →
    overwritten bytes at new ≡ overwritten bytes at (take n new)
overwritten-front bytes new at len n within size some same =
    ap (take (length bytes)) (append_assoc (take at bytes) new (drop (at + length new) bytes)
    ∙ ap (λ tail. take at bytes ++ tail) (tail-kept bytes new at len n within size some same)
    ∙ sym (append_assoc (take at bytes) (take n new) (drop (at + length (take n new)) bytes)))

-- the same for a region
area_with-front : (addr len n : ℕ) (new : List ℕ) (a : Area) → writes_in addr len a ≡ true →
    length new ≡ len → n ≤ len → drop n new ≡ drop n (bytes_in addr len a) →
    area_with addr new a ≡ area_with addr (take n new) a
area_with-front addr len n new a e size some same =
    let lies : IsTrue (lies_in addr len a) = writes-lies addr len a e in
    let within : (addr - a.base) + len ≤ length a.bytes = grind (arith, nat_tests) in
    ap (λ (bytes : List ℕ). let b : Area = record a { bytes = bytes } in b)
    (overwritten-front a.bytes new (addr - a.base) len n within size some same)

-- the same for a list of regions, by whether the first may be written
front_step : (addr len n : ℕ) (new old : List ℕ) (x : Area) (xs one other : List Area) (b : Bool) →
    writes_in addr len x ≡ b → length new ≡ len → n ≤ len → drop n new ≡ drop n old →
    option_map (bytes_in addr len) (cond b (Some x) (find (writes_in addr len) xs)) ≡ Some old →
    (option_map (bytes_in addr len) (find (writes_in addr len) xs) ≡ Some old → one ≡ other) →
    cond b (area_with addr new x ∷ xs) (x ∷ one)
    ≡ cond b (area_with addr (take n new) x ∷ xs) (x ∷ other)
front_step addr len n new old x xs one other true e size some same h later =
    let part : bytes_in addr len x ≡ old = cc in
    ap (λ (a : Area). a ∷ xs)
    (area_with-front addr len n new x e size some (same ∙ ap (drop n) (sym part)))
front_step addr len n new old x xs one other false e size some same h later =
    ap (λ (rest : List Area). x ∷ rest) (later h)

first_changed-front : (addr len n : ℕ) (new old : List ℕ) (areas : List Area) →
    length new ≡ len → n ≤ len → drop n new ≡ drop n old →
    option_map (bytes_in addr len) (find (writes_in addr len) areas) ≡ Some old →
    first_changed (writes_in addr len) (area_with addr new) areas
    ≡ first_changed (writes_in addr len) (area_with addr (take n new)) areas
first_changed-front addr len n new old [] size some same h = cc
first_changed-front addr len n new old (x ∷ xs) size some same h =
    front_step addr len n new old x xs _ _ (writes_in addr len x) refl size some same h
    (first_changed-front addr len n new old xs size some same)

-- memory whose buffer returns with other bytes only at its prefix
memory_with-front : (mem : Memory) (addr len n : ℕ) (old new : List ℕ) →
    writable_of mem addr len ≡ Some old → length new ≡ len → n ≤ len → drop n new ≡ drop n old →
    memory_with mem addr len new ≡ memory_with mem addr len (take n new)
unfolding memory_with writable_of
memory_with-front mem addr len n old new h size some same =
    ap (λ (areas : List Area). let m : Memory = record mem { areas = areas } in m)
    (first_changed-front addr len n new old mem.areas size some same h)

-- what is known about an input whose first bytes were taken
front-gives : (left after : Option (List ℕ)) (new : List ℕ) (n : ℕ) →
    GivesFront left after new n → GivesInput left after (take n new)
front-gives None after new n gives = tt
front-gives (Some told) after new n gives =
    (drop n told, rw gives.1 (sym (take-append-drop n told)), gives.2)

-- the buffer was passed by reference to an input that gave n bytes
takes-into : (mem : Memory) (addr len n : ℕ) (old new : List ℕ) (left after : Option (List ℕ)) →
    Some old ≡ writable_of mem addr len → length old ≡ len → length new ≡ length old →
    TakesSome left after old new n →
    TakesInto addr len mem (memory_with mem addr len new) left after (take n new)
takes-into mem addr len n old new left after h size same takes =
    let some : n ≤ len = omega (arith, takes.count, size) in record {
      fits = omega (arith, length-take-le n new (omega (arith, some, size, same)), some);
      memory = memory_with-front mem addr len n old new (sym h) (same ∙ size) some takes.rest;
      gives = front-gives left after new n takes.told;
    }

-- the buffer was passed by reference to an input that then was at its end, if the buffer is not full
pub fills-all : {E : Type 0} (mem : Memory) (addr len : ℕ) (old new : List ℕ)
    (left after : Option (List ℕ)) (result : Result ℕ E) → Some old ≡ writable_of mem addr len →
    length old ≡ len → length new ≡ length old → TakesAll left after old new result →
    IfOk result (λ n. Fills addr len mem (memory_with mem addr len new) left after n)
fills-all mem addr len old new left after (Ok n) h size same takes = record {
  taken = take n new;
  count = sym (length-take-le n new (omega (arith, takes.taken.count, same)));
  takes = takes-into mem addr len n old new left after h size same takes.taken;
  most = rw size at takes.most;
}
fills-all mem addr len old new left after (Err e) h size same takes = tt

-- or it failed
pub fills-some : {E : Type 0} (mem : Memory) (addr len : ℕ) (old new : List ℕ)
    (left after : Option (List ℕ)) (result : Result ℕ E) → Some old ≡ writable_of mem addr len →
    length old ≡ len → length new ≡ length old → TakesAll left after old new result →
    OnErr result (FillsSome addr len mem (memory_with mem addr len new) left after)
fills-some mem addr len old new left after (Ok n) h size same takes = tt
fills-some mem addr len old new left after (Err e) h size same takes =
    let n : ℕ = takes.failed.0 in (
      take n new,
      takes-into mem addr len n old new left after h size same takes.failed.2,
    )
