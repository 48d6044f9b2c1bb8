-- Every probability of the header's tree is a byte (Counts), so all its reads are in range, by induction on the tree; and each of its
-- groups has its length: a law for each way to read a list, then one for each sub-header.
use Prim.Native.Nat.{ℕ, zero, suc, zero-le, ◌≤◌, ◌<◌}
use native.Mathlib.Omega.{arith}
use mathlib.Core.Logic.{inl, inr}
use mathlib.Core.Path.{◌≡◌, refl, ap}
use mathlib.Core.Bool.{Bool, true, false, not}
use mathlib.Core.List.{List, [], ◌∷◌}
use lib.Dec.{lit≤, lit<}
use lib.IntN.{pos}
use lib.ListN.{length}
use Rattle.vp8_probs.specs.Tables.{coeff_update, mv_update}
use Rattle.vp8_records.specs.declared.Mode.{Mode}
use Rattle.rfc6386.specs.Decoder.{State, start, bits, read_bool, pick}
use Rattle.rfc6386.specs.Reads.{Rd, ret, ask, flag, when, lit, sint, times, each, maybe}
use Rattle.rfc6386.specs.Coded.{Features, Segments, Deltas, Inter, Coded, anew, features, no_features, mapped, segments, deltas, quant}
use Rattle.rfc6386.specs.Coded.{refresh, coefficients, motion, modes, inter, no_inter, header}
use Rattle.rfc6386.specs.Holds.{AllRanged, Group, Mapped, Fits}
use Rattle.rfc6386.proofs.Trees.{Always, always_ret, always_bind, always_skip, lit_small}
use Rattle.rfc6386.proofs.Range.{Asks, split_within, read_within}
use Rattle.rfc6386.proofs.Counts.{asks_header}

pub all_ranged : {A : Type 0} (m : Rd A) → Asks m → (l : ℕ) (s : State) → 128 ≤ s.r → s.r < 256 → AllRanged m l s
all_ranged (ret a) h l s g j = tt
all_ranged (ask p k) h l s g j =
    let o = read_bool l p s in
    let sp = split_within s.r p g h.0 in
    let w = read_within l p s g j h.0 in
    (record { least = sp.0; most = sp.1; back = w.0; byte = w.1 }, all_ranged (k o.got) (h.1 o.got) l o.then w.0 w.1)

-- every read of every header, over any bytes
pub header_ranged : (md : Mode) (key : Bool) (area : List ℕ) → AllRanged (header md key) (bits area) (start area)
unfolding start
header_ranged md key area = all_ranged (header md key) (asks_header md key) (bits area) (start area) (lit≤ tt) (lit< tt)

abbrev Long : {A : Type 0} → ℕ → List A → Type 0
Long n xs = length xs ≡ n

times_long : {A : Type 0} (n : ℕ) (m : Rd A) → Always (Long n) (times n m)
unfolding times
times_long zero m = always_ret (Long 0) [] refl
times_long (suc n) m =
    always_skip (Long (suc n)) m _ (λ x.
    always_bind (Long n) (Long (suc n)) (times n m) _ (times_long n m) (λ xs h. always_ret (Long (suc n)) (x ∷ xs) (ap suc h)))

each_long : {A B : Type 0} (f : A → Rd B) (xs : List A) → Always (Long (length xs)) (each f xs)
unfolding each
each_long f [] = always_ret (Long 0) [] refl
each_long f (x ∷ xs) =
    let n = length xs in
    always_skip (Long (suc n)) (f x) _ (λ y.
    always_bind (Long n) (Long (suc n)) (each f xs) _ (each_long f xs) (λ ys h. always_ret (Long (suc n)) (y ∷ ys) (ap suc h)))

anew_long : {A : Type 0} (n : ℕ) (m : Rd A) (x : A) → Always (Long n) (anew n m x)
unfolding anew
anew_long n m x = times_long n _

-- a group is never longer than the run of n that it is written over, so `over` drops nothing
pub group_most : {A : Type 0} (n : ℕ) (us : List A) → Group n us → length us ≤ n
group_most n us (inl e) = rw e zero-le
group_most n us (inr e) = omega (arith, e)

-- what holds of a read and of the value in its place
pub under : {A : Type 0} (P : A → Type 0) (b : Bool) (m : Rd A) (x : A) → Always P m → P x → Always P (when b m x)
unfolding when
under P true m x h e = h
under P false m x h e = always_ret P x e

group_if : {A : Type 0} (n : ℕ) (b : Bool) (m : Rd (List A)) → Always (Long n) m → Always (Group n) (when b m [])
group_if n b m h = under (Group n) b m [] (λ l s. inr (h l s)) (inl refl)

abbrev OfFeatures : Features → Type 0
OfFeatures f = Group 4 f.quantizers × Group 4 f.levels

of_features : Always OfFeatures features
unfolding features
of_features =
    let q = anew 4 (sint 7) (pos 0) in
    let v = anew 4 (sint 6) (pos 0) in
    always_skip OfFeatures flag _ (λ mode.
    always_bind (Long 4) OfFeatures q _ (anew_long 4 (sint 7) (pos 0)) (λ qs hq.
    always_bind (Long 4) OfFeatures v _ (anew_long 4 (sint 6) (pos 0)) (λ vs hv. always_ret OfFeatures _ (inr hq, inr hv))))

-- n options where the test holds, and none where not
exactly_if : {A : Type 0} (n : ℕ) (b : Bool) (m : Rd (List A)) → Always (Long n) m → Always (Long (pick b n 0)) (when b m [])
unfolding when
exactly_if n true m h = h
exactly_if n false m h = always_ret (Long 0) [] refl

pick_group : {A : Type 0} (n : ℕ) (b : Bool) (us : List A) → Long (pick b n 0) us → Group n us
pick_group n true us h = inr h
pick_group n false [] h = inl refl
pick_group n false (u ∷ us) h = absurd (omega (arith, h))

abbrev OfSegments : Mode → Segments → Type 0
OfSegments md g = Group 4 g.quantizers × Group 4 g.levels × Mapped md g

of_segments : (md : Mode) → Always (OfSegments md) (segments md)
unfolding segments
of_segments md =
    let P : Segments → Type 0 = OfSegments md in
    always_skip P flag _ (λ e. always_skip P (when e flag false) _ (λ m. always_skip P (when e flag false) _ (λ d.
    always_bind OfFeatures P (when d features no_features) _
    (under OfFeatures d features no_features of_features (inl refl, inl refl)) (λ f hf.
    always_bind (Long (pick (mapped md m d) 3 0)) P (when (mapped md m d) (anew 3 (lit 8) 255) []) _
    (exactly_if 3 (mapped md m d) _ (anew_long 3 (lit 8) 255)) (λ p hp. always_ret P _ (hf.0, hf.1, hp))))))

abbrev OfDeltas : Deltas → Type 0
OfDeltas d = Group 4 d.frames × Group 4 d.modes

four_if : (u : Bool) → Always (Group 4) (when u (times 4 (maybe 128 (sint 6))) [])
four_if u = group_if 4 u _ (times_long 4 _)

of_deltas : Always OfDeltas deltas
unfolding deltas
of_deltas =
    always_skip OfDeltas flag _ (λ e. always_skip OfDeltas (when e flag false) _ (λ u.
    always_bind (Group 4) OfDeltas (when u (times 4 (maybe 128 (sint 6))) []) _ (four_if u) (λ f hf.
    always_bind (Group 4) OfDeltas (when u (times 4 (maybe 128 (sint 6))) []) _ (four_if u) (λ m hm. always_ret OfDeltas _ (hf, hm)))))

of_coefficients : Always (Long 1056) coefficients
unfolding coefficients coeff_update
of_coefficients = each_long _ coeff_update

of_motion : Always (Long 38) motion
unfolding motion mv_update
of_motion = each_long _ mv_update

of_modes : (n : ℕ) → Always (Group n) (modes n)
unfolding modes
of_modes n = always_skip (Group n) flag _ (λ b. group_if n b _ (times_long n _))

abbrev OfInter : Inter → Type 0
OfInter t = Group 4 t.luma × Group 3 t.chroma × Group 38 t.motion

of_inter : Always OfInter inter
unfolding inter
of_inter =
    always_skip OfInter (lit 8) _ (λ i. always_skip OfInter (lit 8) _ (λ l. always_skip OfInter (lit 8) _ (λ g.
    always_bind (Group 4) OfInter (modes 4) _ (of_modes 4) (λ y hy.
    always_bind (Group 3) OfInter (modes 3) _ (of_modes 3) (λ c hc.
    always_bind (Long 38) OfInter motion _ of_motion (λ m hm. always_ret OfInter _ (hy, hc, inr hm)))))))

-- every header, over any bytes
pub header_fits : (md : Mode) (key : Bool) → Always (Fits md) (header md key)
unfolding header
header_fits md key =
    let P : Coded → Type 0 = Fits md in
    let nothing : OfInter no_inter = (inl refl, inl refl, inl refl) in
    always_skip P (when key flag false) _ (λ cs. always_skip P (when key flag false) _ (λ ct.
    always_bind (OfSegments md) P (segments md) _ (of_segments md) (λ sg hs.
    always_skip P flag _ (λ ft. always_skip P (lit 6) _ (λ ll. always_skip P (lit 3) _ (λ sh.
    always_bind OfDeltas P deltas _ of_deltas (λ ds hd.
    always_bind (λ x. x < 4) P (lit 2) _ (lit_small 2) (λ lp few.
    always_skip P quant _ (λ q. always_skip P (refresh key) _ (λ rf.
    always_bind (Long 1056) P coefficients _ of_coefficients (λ co hc.
    always_skip P flag _ (λ sk. always_skip P (when sk (lit 8) 0) _ (λ sp.
    always_bind OfInter P (when (not key) inter no_inter) _ (under OfInter (not key) inter no_inter of_inter nothing) (λ it hi.
    always_ret P _
    (record {
      quantizers = hs.0;
      levels = hs.1;
      probs = pick_group 3 (mapped md sg.update_map sg.update_data) sg.probs hs.2;
      map = hs.2;
      frames = hd.0;
      modes = hd.1;
      log2parts = few;
      coeffs = inr hc;
      luma = hi.0;
      chroma = hi.1;
      motion = hi.2;
    })))))))))))))))
