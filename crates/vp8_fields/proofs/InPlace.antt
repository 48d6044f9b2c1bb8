-- A loop that reads each element anew in its place is the definition's state-free read, written over what was there: one law for a loop
-- over numbers, one for a loop over records, for every read, length and layout. By induction on the list.
use Prim.Native.Nat.{ℕ, zero, suc, ◌+◌, ◌*◌, ◌≤◌}
use native.Mathlib.Nat.{suc-mul, zero-mul, add-zero, add-suc}
use native.Mathlib.Omega.{arith}
use mathlib.Core.Path.{◌≡◌, refl, sym, ap, ap₂, ◌∙◌, fun_ext}
use mathlib.Core.Option.{Option, some}
use mathlib.Core.List.{List, [], ◌∷◌, ◌++◌}
use lib.ListN.{length, get_or, take, drop, replicate, length-drop, length-replicate}
use lib.Seq.{drop-cons, drop-drop, take-add, drop_at, length-take-le, take_at}
use Rattle.vp8_records.specs.Layout.{rows, joined}
use Rattle.vp8_records.specs.Shape.{Every}
use Rattle.rfc6386.specs.Reads.{Rd, ret, ask, ◌>>=◌, flag, make, times, each, maybe, or_else}
use Rattle.rfc6386.specs.Runs.{or, over}
use Rattle.rfc6386.specs.Coded.{anew}
use Rattle.rfc6386.proofs.Runs.{length_over, over_append}
use Rattle.rfc6386.proofs.Trees.{assoc, onward}
use Rattle.bool_decoder.specs.InPlace.{each_at}
use Rattle.bool_decoder.proofs.Made.{make_then, make_make, kept_or}
use Rattle.vp8_fields.specs.Rows.{onto, row_over}

module _ {P A : Type 0} (g : P → Rd A) where
  each_cons : {C : Type 0} (p : P) (ps : List P) (k : List A → Rd C)
      → each g (p ∷ ps) >>= k ≡ g p >>= (λ y. each g ps >>= (λ ys. k (y ∷ ys)))
  unfolding each ◌>>=◌
  each_cons p ps k = assoc (g p) _ k ∙ onward (g p) (λ y. assoc (each g ps) _ k)

  -- it gives as many
  each_onward : {C : Type 0} (ps : List P) (k l : List A → Rd C) → ((ys : List A) → length ys ≡ length ps → k ys ≡ l ys)
      → each g ps >>= k ≡ each g ps >>= l
  unfolding each ◌>>=◌
  each_onward [] k l h = h [] refl
  each_onward (p ∷ ps) k l h =
      each_cons p ps k
      ∙ onward (g p) (λ y. each_onward ps (λ ys. k (y ∷ ys)) (λ ys. l (y ∷ ys)) (λ ys e. h (y ∷ ys) (ap suc e)))
      ∙ sym (each_cons p ps l)

  each_append : {C : Type 0} (ps qs : List P) (k : List A → Rd C)
      → each g (ps ++ qs) >>= k ≡ each g ps >>= (λ us. each g qs >>= (λ vs. k (us ++ vs)))
  unfolding each ◌>>=◌
  each_append [] qs k = refl
  each_append (p ∷ ps) qs k =
      each_cons p (ps ++ qs) k ∙ onward (g p) (λ y. each_append ps qs (λ ys. k (y ∷ ys)))
      ∙ sym (each_cons p ps (λ us. each g qs >>= (λ vs. k (us ++ vs))))

-- the same read n times is that of each of n
pub times_each : {P A : Type 0} (m : Rd A) (ps : List P) → each (λ p. m) ps ≡ times (length ps) m
unfolding each times
times_each m [] = refl
times_each {P} {A} m (p ∷ ps) = onward m (λ x. ap {A = Rd (List A)} (λ t. t >>= (λ xs. ret (x ∷ xs))) (times_each m ps))

-- a loop over numbers: element i is read by g at p_i, and kept where that gives none
pub loop_over : {A : Type 0} (f : ℕ → A → Rd A) (g : ℕ → Rd (Option A)) (t : List ℕ) (at : ℕ)
    → ((i : ℕ) (x : A) → f i x ≡ make (λ u. or u x) (g (get_or t (at + i) 0)))
    → (i : ℕ) (xs : List A) → at + i + length xs ≤ length t
    → each_at f i xs ≡ onto xs (each g (take (length xs) (drop (at + i) t)))
unfolding each_at each over make ◌>>=◌
loop_over f g t at h i [] fits = refl
loop_over {A} f g t at h i (x ∷ xs) fits =
    let p : ℕ = get_or t (at + i) 0 in
    let ps : List ℕ = take (length xs) (drop (suc (at + i)) t) in
    ap₂ (λ (m : Rd A) (n : Rd (List A)). m >>= (λ y. n >>= (λ ys. ret (y ∷ ys)))) (h i x)
    (rw add-suc at (loop_over f g t at h (suc i) xs (omega (arith, fits))))
    ∙ make_then (g p) (λ u. or u x) _
    ∙ onward (g p) (λ u. make_then (each g ps) (λ us. over us xs) (λ ys. ret (or u x ∷ ys)))
    ∙ sym (each_cons g p ps (λ us. ret (over us (x ∷ xs))))
    ∙ ap (λ (l : List ℕ). onto (x ∷ xs) (each g (take (suc (length xs)) l))) (sym (drop-cons t (at + i) 0 (omega (arith, fits))))

-- the same of one read for all n
pub loop_times : {A : Type 0} (f : ℕ → A → Rd A) (m : Rd (Option A)) → ((i : ℕ) (x : A) → f i x ≡ make (λ u. or u x) m)
    → (n : ℕ) (xs : List A) → length xs ≡ n → each_at f 0 xs ≡ onto xs (times n m)
loop_times {A} f m h n xs e =
    let t : List ℕ = replicate n 0 in
    let ps : List ℕ = take (length xs) (drop (0 + 0) t) in
    let all : length t ≡ n = length-replicate n 0 in
    let size : length ps ≡ n = length-take-le (length xs) t (omega (arith, e, all)) ∙ e in
    loop_over f (λ p. m) t 0 h 0 xs (omega (arith, e, all))
    ∙ ap (λ (r : Rd (List (Option A))). onto xs r) (times_each m ps ∙ ap (λ (k : ℕ). times k m) size)

-- the old values have no say where each is read anew
pub some_over : {A : Type 0} (m : Rd A) (x : A) → m ≡ make (λ u. or u x) (make some m)
unfolding make ◌>>=◌
some_over (ret a) x = refl
some_over (ask p k) x = ap (ask p) (fun_ext (λ b. some_over (k b) x))

-- a loop over records of n numbers each: `flat` is a record's numbers, `laid` makes a record of the first n of a list
module _ {A : Type 0} (flat : A → List ℕ) (laid : List ℕ → A) (Good : A → Type 0) (n : ℕ) (g : ℕ → Rd (Option ℕ)) (t : List ℕ)
    (sized : (x : A) → Good x → length (flat x) ≡ n) (own : (ys : List ℕ) → laid ys ≡ laid (take n ys)) where
  -- what is written over a record and over those after it
  parted : (k : ℕ) (us vs : List (Option ℕ)) (x : A) (ys : List ℕ) → Good x → length us ≡ n
      → laid (over us (flat x)) ∷ rows k n laid (over vs ys) ≡ rows (suc k) n laid (over (us ++ vs) (flat x ++ ys))
  unfolding rows
  parted k us vs x ys h e =
      let a : over (us ++ vs) (flat x ++ ys) ≡ over us (flat x) ++ over vs ys = over_append us vs (flat x) ys (sized x h ∙ sym e) in
      let b : length (over us (flat x)) ≡ n = length_over us (flat x) ∙ sized x h in
      rw a
      (sym (ap₂ {C = List A} (λ y l. y ∷ rows k n laid l)
      (own (over us (flat x) ++ over vs ys) ∙ ap laid (take_at (over us (flat x)) (over vs ys) n b))
      (drop_at (over us (flat x)) (over vs ys) n b)))

  abbrev row : ℕ → A → Rd A
  row = row_over flat laid n g t

  pub loop_rows : (at i : ℕ) (xs : List A) → Every Good xs → at + i * n + length xs * n ≤ length t
      → each_at (λ i. row (at + i * n)) i xs
      ≡ make (λ us. rows (length xs) n laid (over us (joined flat xs))) (each g (take (length xs * n) (drop (at + i * n) t)))
  unfolding each_at each rows joined over make ◌>>=◌
  loop_rows at i [] h fits = rw zero-mul
  loop_rows at i (x ∷ xs) h fits =
      let here : List ℕ = drop (at + i * n) t in
      let ps : List ℕ = take n here in
      let qs : List ℕ = take (length xs * n) (drop n here) in
      let far : at + i * n + n ≡ at + suc i * n = omega (arith, suc-mul i n) in
      let next : drop (at + suc i * n) t ≡ drop n here = sym (drop-drop n (at + i * n) t ∙ ap (λ (j : ℕ). drop j t) far) in
      let room : n + length xs * n ≤ length here = omega (arith, suc-mul (length xs) n, fits, length-drop (at + i * n) t) in
      let size : length ps ≡ n = length-take-le n here (omega (arith, room)) in
      let all : suc (length xs) * n ≡ n + length xs * n = omega (arith, suc-mul (length xs) n) in
      let whole : take (suc (length xs) * n) here ≡ ps ++ qs = ap (λ (j : ℕ). take j here) all ∙ take-add n (length xs * n) here in
      ap (λ (m : Rd (List A)). row (at + i * n) x >>= (λ y. m >>= (λ ys. ret (y ∷ ys))))
      (rw next at (loop_rows at (suc i) xs h.1 (omega (arith, suc-mul i n, suc-mul (length xs) n, fits))))
      ∙ make_then (each g ps) (λ us. laid (over us (flat x))) _
      ∙ each_onward g ps _ _ (λ us e.
      make_then (each g qs) (λ vs. rows (length xs) n laid (over vs (joined flat xs))) (λ ys. ret (laid (over us (flat x)) ∷ ys))
      ∙ onward (each g qs) (λ vs. ap (λ (l : List A). ret l) (parted (length xs) us vs x (joined flat xs) h.0 (e ∙ size))))
      ∙ sym (each_append g ps qs (λ us. ret (rows (suc (length xs)) n laid (over us (flat x ++ joined flat xs)))))
      ∙ ap (λ (l : List ℕ). make (λ us. rows (suc (length xs)) n laid (over us (flat x ++ joined flat xs))) (each g l)) (sym whole)

  -- a record over such a loop; `wrap` makes it of its rows
  pub level : {R : Type 0} (wrap : List A → R) (k at : ℕ) (xs : List A) → length xs ≡ k → Every Good xs → at + k * n ≤ length t
      → make wrap (each_at (λ i. row (at + i * n)) 0 xs)
      ≡ make (λ us. wrap (rows k n laid (over us (joined flat xs)))) (each g (take (k * n) (drop at t)))
  level {R} wrap k at xs e h fits =
      let z : at + 0 * n ≡ at = omega (arith, zero-mul n) in
      ap (λ (m : Rd (List A)). make wrap m) (rw (z, e) at (loop_rows at 0 xs h (rw (z, e) fits)))
      ∙ make_make (each g (take (k * n) (drop at t))) (λ us. rows k n laid (over us (joined flat xs))) wrap

-- a record over a loop of numbers
pub leaf : {A R : Type 0} (wrap : List A → R) (f : ℕ → A → Rd A) (g : ℕ → Rd (Option A)) (t : List ℕ) (at n : ℕ)
    → ((i : ℕ) (x : A) → f i x ≡ make (λ u. or u x) (g (get_or t (at + i) 0)))
    → (xs : List A) → length xs ≡ n → at + n ≤ length t
    → make wrap (each_at f 0 xs) ≡ make (λ us. wrap (over us xs)) (each g (take n (drop at t)))
leaf {A} {R} wrap f g t at n h xs e fits =
    ap (λ (m : Rd (List A)). make wrap m) (rw (add-zero, e) at (loop_over f g t at h 0 xs (rw (add-zero, e) fits)))
    ∙ make_make (each g (take n (drop at t))) (λ us. over us xs) wrap

times_cons : {A C : Type 0} (n : ℕ) (m : Rd A) (k : List A → Rd C)
    → times (suc n) m >>= k ≡ m >>= (λ x. times n m >>= (λ xs. k (x ∷ xs)))
unfolding times ◌>>=◌
times_cons n m k = assoc m _ k ∙ onward m (λ x. assoc (times n m) _ k)

-- n values anew over any n old ones: the loop starts from x at each of them, and keeps it where a value's own flag is clear
pub anew_over : {A : Type 0} (m : Rd A) (x : A) (n : ℕ) (old : List A) → length old ≡ n
    → onto (replicate n x) (times n (maybe 128 m)) ≡ onto old (anew n m x)
unfolding anew times over make or_else flag ◌>>=◌
anew_over m x zero [] h = refl
anew_over m x zero (y ∷ ys) h = absurd (omega (arith, h))
anew_over m x (suc n) [] h = absurd (omega (arith, h))
anew_over {A} m x (suc n) (y ∷ ys) h =
    times_cons n (maybe 128 m) (λ us. ret (over us (x ∷ replicate n x)))
    ∙ onward (maybe 128 m) (λ u.
    sym (make_then (times n (maybe 128 m)) (λ us. over us (replicate n x)) (λ zs. ret (or u x ∷ zs)))
    ∙ ap (λ (t : Rd (List A)). t >>= (λ zs. ret (or u x ∷ zs))) (anew_over m x n ys (omega (arith, h)))
    ∙ make_then (times n (make some (or_else m x))) (λ us. over us ys) (λ zs. ret (or u x ∷ zs)))
    ∙ sym (make_then (maybe 128 m) (λ u. or u x) (λ z. times n (make some (or_else m x)) >>= (λ us. ret (z ∷ over us ys))))
    ∙ ap (λ (t : Rd A). t >>= (λ z. times n (make some (or_else m x)) >>= (λ us. ret (z ∷ over us ys)))) (sym (kept_or 128 m x))
    ∙ sym (times_cons n (make some (or_else m x)) (λ us. ret (over us (y ∷ ys))) ∙ assoc (or_else m x) (λ z. ret (some z)) _)
