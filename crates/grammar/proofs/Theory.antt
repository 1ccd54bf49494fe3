-- The machine accepts exactly the documents, and each live state can be completed to one.
use mathlib.Core.Path.{◌≡◌, refl, sym, ap, ◌∙◌}
use mathlib.Core.Bool.{Bool, true, false, cond, true≢false}
use mathlib.Core.List.{List, [], ◌∷◌, ◌++◌, append-nil}
use Prim.Native.Nat.{ℕ, suc, ◌<◌}
use native.Mathlib.Omega.{arith}
use lib.ListN.{length, take, drop, take-append-drop}
use lib.Seq.{take-length}
use lib.Dec.{eqb}
use borrow.Author.Tests.{eqb-true, eq-eqb}
use Rattle.grammar.specs.Classes.{white, name_start, name_byte, text, class_number}
use Rattle.grammar.specs.Grammar.{Bytes, ε, ◌▸◌, ◌⊲◌, Content, nothing, empty_element, element, print, Document, Opening, OutsideAt}
use Rattle.grammar.specs.Tokens.{ReadsWhite, ReadsName, Run, Level, outer, inner, may_open, WellFormed}
use Rattle.grammar.proofs.InWords.{white_reads, reads_white, root_formed, root_one, formed_root}
use Rattle.grammar.specs.Machine.{may_follow, Open, State, dead, in_run, after_less, in_name, in_space, after_slash, in_end_name, in_end_space, level, end_tag_state, tag, tail, step, runs, initial, Final}

-- what a state has read, and what follows it
abbrev pub print_o : List Open → List ℕ → List ℕ
print_o [] v = v
print_o (p ∷ o) v = print_o o (print p.before (p.run ⊲ 60 ∷ (p.name ⊲ p.space ⊲ 62 ∷ v)))

abbrev pub print_s : State → List ℕ → List ℕ
print_s dead v = v
print_s (in_run o f t) v = print_o o (print f (t ⊲ v))
print_s (after_less o f t) v = print_o o (print f (t ⊲ 60 ∷ v))
print_s (in_name o f t n) v = print_o o (print f (t ⊲ 60 ∷ (n ⊲ v)))
print_s (in_space o f t n g) v = print_o o (print f (t ⊲ 60 ∷ (n ⊲ g ⊲ v)))
print_s (after_slash o f t n g) v = print_o o (print f (t ⊲ 60 ∷ (n ⊲ g ⊲ 47 ∷ v)))
print_s (in_end_name p o f t m r) v = print_o (p ∷ o) (print f (t ⊲ 60 ∷ 47 ∷ (m ⊲ v)))
print_s (in_end_space p o f t h) v = print_o (p ∷ o) (print f (t ⊲ 60 ∷ 47 ∷ (p.name ⊲ h ⊲ v)))

-- what stands before a tag that may open an element, and its name and white space
abbrev pub GoodTag : Level → Content → Bytes → Bytes → Bytes → Type 0
GoodTag k f t n g = WellFormed k f × Run k t × (may_open k f ≡ true) × ReadsName n × ReadsWhite g

abbrev pub GoodO : List Open → Type 0
GoodO [] = Unit {0}
GoodO (p ∷ o) = GoodO o × GoodTag (level o) p.before p.run p.name p.space

abbrev pub GoodS : State → Type 0
GoodS dead = ⊥
GoodS (in_run o f t) = GoodO o × WellFormed (level o) f × Run (level o) t
GoodS (after_less o f t) = GoodO o × WellFormed (level o) f × Run (level o) t × (may_open (level o) f ≡ true)
GoodS (in_name o f t n) = GoodO o × GoodTag (level o) f t n ε
GoodS (in_space o f t n g) = GoodO o × GoodTag (level o) f t n g
GoodS (after_slash o f t n g) = GoodO o × GoodTag (level o) f t n g
GoodS (in_end_name p o f t m r) = GoodO (p ∷ o) × WellFormed inner f × Run inner t × (m ⊲ r ≡ p.name ⊲ [])
GoodS (in_end_space p o f t h) = GoodO (p ∷ o) × WellFormed inner f × Run inner t × ReadsWhite h

abbrev pub Live : State → Type 0
Live dead = ⊥
Live (in_run o f t) = Unit {0}
Live (after_less o f t) = Unit {0}
Live (in_name o f t n) = Unit {0}
Live (in_space o f t n g) = Unit {0}
Live (after_slash o f t n g) = Unit {0}
Live (in_end_name p o f t m r) = Unit {0}
Live (in_end_space p o f t h) = Unit {0}

-- s' is dead, or holds what s holds and one byte more
abbrev Next : State → ℕ → State → Type 0
Next s b s' = Live s' → GoodS s' × ((v : List ℕ) → print_s s' v ≡ print_s s (b ∷ v))

pub by_cond : (P : State → Type 0) (t : Bool) {x y : State} → (t ≡ true → P x) → (t ≡ false → P y) → P (cond t x y)
by_cond P true h k = h refl
by_cond P false h k = k refl

-- two byte strings that print alike before nothing print alike before anything
pub ⊲-append : (s : Bytes) (v w : List ℕ) → (s ⊲ v) ++ w ≡ s ⊲ (v ++ w)
⊲-append ε v w = refl
⊲-append (s ▸ b) v w = ⊲-append s (b ∷ v) w

⊲-same : (s t : Bytes) (v : List ℕ) → s ⊲ [] ≡ t ⊲ [] → s ⊲ v ≡ t ⊲ v
⊲-same s t v e = sym (⊲-append s [] v) ∙ ap (λ (l : List ℕ). l ++ v) e ∙ ⊲-append t [] v

name_more : (n : Bytes) (b : ℕ) → ReadsName n → name_byte b ≡ true → ReadsName (n ▸ b)
name_more ε b h e = absurd (true≢false (sym h.1))
name_more (s ▸ a) b h e = ((h.0, e), refl)

tag_next : (s : State) (o : List Open) (f : Content) (t n g : Bytes) (b : ℕ) → GoodO o × GoodTag (level o) f t n g →
    ((v : List ℕ) → print_o o (print f (t ⊲ 60 ∷ (n ⊲ g ⊲ v))) ≡ print_s s v) → Next s b (tag o f t n g b)
tag_next s o f t n g b h e =
    by_cond (Next s b) (white b)
    (λ w l. ((h.0, (h.1.0, h.1.1, h.1.2, h.1.3, (h.1.4, w))), λ v. e (b ∷ v)))
    (λ nw.
    by_cond (Next s b) (eqb b 62)
    (λ q l. (((h.0, h.1), tt, tt), λ v. rw (eqb-true b 62 q) (e (62 ∷ v))))
    (λ nq.
    by_cond (Next s b) (eqb b 47)
    (λ q l. (h, λ v. rw (eqb-true b 47 q) (e (47 ∷ v))))
    (λ nr l. absurd l)))

tail_next : (s : State) (p : Open) (o : List Open) (f : Content) (t h : Bytes) (b : ℕ) → GoodS (in_end_space p o f t h) →
    ((v : List ℕ) → print_s (in_end_space p o f t h) v ≡ print_s s v) → Next s b (tail p o f t h b)
tail_next s p o f t h b k e =
    by_cond (Next s b) (white b)
    (λ w l. ((k.0, k.1, k.2, (k.3, w)), λ v. e (b ∷ v)))
    (λ nw.
    by_cond (Next s b) (eqb b 62)
    (λ q l. ((k.0.0, (k.0.1, k.1, k.2, k.3), tt), λ v. rw (eqb-true b 62 q) (e (62 ∷ v))))
    (λ nr l. absurd l))

end_next : (s : State) (o : List Open) (f : Content) (t : Bytes) (b : ℕ) → GoodS (after_less o f t) →
    ((v : List ℕ) → print_o o (print f (t ⊲ 60 ∷ v)) ≡ print_s s v) → b ≡ 47 → Next s b (end_tag_state o f t)
end_next s [] f t b h e q l = absurd l
end_next s (p ∷ o) f t b h e q l = ((h.0, h.1, h.2, refl), λ v. rw q (e (47 ∷ v)))

-- what is read is kept, and stays good, as long as the machine lives
pub keeps : (s : State) (b : ℕ) → GoodS s → Next s b (step s b)
keeps dead b h = λ l. absurd l
keeps (in_run o f t) b h =
    by_cond (Next (in_run o f t) b) (eqb b 60)
    (λ q. by_cond (Next (in_run o f t) b) (may_open (level o) f)
    (λ m l. ((h.0, h.1, h.2, m), λ v. rw (eqb-true b 60 q) refl))
    (λ m l. absurd l))
    (λ nq. by_cond (Next (in_run o f t) b) (may_follow (level o) t b)
    (λ m l. ((h.0, h.1, (h.2, m)), λ v. refl))
    (λ m l. absurd l))
keeps (after_less o f t) b h =
    by_cond (Next (after_less o f t) b) (name_start b)
    (λ m l. ((h.0, (h.1, h.2, h.3, ((tt, m), refl), tt)), λ v. refl))
    (λ m. by_cond (Next (after_less o f t) b) (eqb b 47)
    (λ q. end_next (after_less o f t) o f t b h (λ v. refl) (eqb-true b 47 q))
    (λ q l. absurd l))
keeps (in_name o f t n) b h =
    by_cond (Next (in_name o f t n) b) (name_byte b)
    (λ m l. ((h.0, (h.1.0, h.1.1, h.1.2, name_more n b h.1.3 m, tt)), λ v. refl))
    (λ m. tag_next (in_name o f t n) o f t n ε b h (λ v. refl))
keeps (in_space o f t n g) b h = tag_next (in_space o f t n g) o f t n g b h (λ v. refl)
keeps (after_slash o f t n g) b h =
    by_cond (Next (after_slash o f t n g) b) (eqb b 62)
    (λ q l. ((h.0, h.1, tt), λ v. rw (eqb-true b 62 q) refl))
    (λ q l. absurd l)
keeps (in_end_name p o f t m []) b h =
    tail_next (in_end_name p o f t m []) p o f t ε b (h.0, h.1, h.2, tt)
    (λ v. ap (λ (l : List ℕ). print_o (p ∷ o) (print f (t ⊲ 60 ∷ 47 ∷ l))) (⊲-same p.name m v (sym h.3)))
keeps (in_end_name p o f t m (r ∷ rs)) b h =
    by_cond (Next (in_end_name p o f t m (r ∷ rs)) b) (eqb b r)
    (λ q l. ((h.0, h.1, h.2, rw (eqb-true b r q) h.3), λ v. refl))
    (λ q l. absurd l)
keeps (in_end_space p o f t g) b h = tail_next (in_end_space p o f t g) p o f t g b h (λ v. refl)

pub live_step : (s : State) (v : List ℕ) → Live (runs s v) → Live s
live_step dead [] l = l
live_step dead (b ∷ v) l = live_step dead v l
live_step (in_run o f t) v l = tt
live_step (after_less o f t) v l = tt
live_step (in_name o f t n) v l = tt
live_step (in_space o f t n g) v l = tt
live_step (after_slash o f t n g) v l = tt
live_step (in_end_name p o f t m r) v l = tt
live_step (in_end_space p o f t g) v l = tt

-- a live state has read exactly what it was given
pub reads : (s : State) (v : List ℕ) → GoodS s → Live (runs s v) → GoodS (runs s v) × ((u : List ℕ) → print_s (runs s v) u ≡ print_s s (v ++ u))
reads s [] h l = (h, λ u. refl)
reads s (b ∷ v) h l =
    let k : GoodS (step s b) × ((u : List ℕ) → print_s (step s b) u ≡ print_s s (b ∷ u)) = keeps s b h (live_step (step s b) v l) in
    let m : GoodS (runs (step s b) v) × ((u : List ℕ) → print_s (runs (step s b) v) u ≡ print_s (step s b) (v ++ u)) = reads (step s b) v k.0 l in
    (m.0, λ u. m.1 u ∙ k.1 (v ++ u))

-- COMPLETENESS: each token is read as itself
pub not_less : (k : Level) (t : Bytes) (b : ℕ) → may_follow k t b ≡ true → eqb b 60 ≡ false
unfolding white text class_number
not_less k t b h = go k (eqb b 60) refl h
  where
    go : (k : Level) (d : Bool) → eqb b 60 ≡ d → may_follow k t b ≡ true → d ≡ false
    go outer true e h = absurd (true≢false (sym h ∙ ap white (eqb-true b 60 e)))
    go inner true e h = absurd (true≢false (sym h ∙ ap (may_follow inner t) (eqb-true b 60 e)))
    go k false e h = refl

pub white_no_name : (b : ℕ) → white b ≡ true → name_byte b ≡ false
unfolding white name_byte
white_no_name b h = rw (eqb-true (class_number b) 3 h)

then : (s s' : State) (b : ℕ) (v : List ℕ) → step s b ≡ s' → runs s (b ∷ v) ≡ runs s' v
then s s' b v e = ap (λ (x : State). runs x v) e

run_read : (o : List Open) (f : Content) (t : Bytes) (v : List ℕ) → Run (level o) t → runs (in_run o f ε) (t ⊲ v) ≡ runs (in_run o f t) v
run_read o f ε v h = refl
run_read o f (t ▸ b) v h = run_read o f t (b ∷ v) h.0 ∙ simp (not_less (level o) t b h.1, h.1)

name_read : (o : List Open) (f : Content) (t n : Bytes) (v : List ℕ) → ReadsName n → runs (after_less o f t) (n ⊲ v) ≡ runs (in_name o f t n) v
name_read o f t ε v h = absurd (true≢false (sym h.1))
name_read o f t (ε ▸ b) v h = then (after_less o f t) (in_name o f t (ε ▸ b)) b v (simp h.0.1)
name_read o f t (s ▸ a ▸ b) v h = name_read o f t (s ▸ a) (b ∷ v) (h.0.0, refl) ∙ simp h.0.1

gap_read : (o : List Open) (f : Content) (t n s : Bytes) (b : ℕ) (v : List ℕ) → ReadsWhite (s ▸ b) →
    runs (in_name o f t n) ((s ▸ b) ⊲ v) ≡ runs (in_space o f t n (s ▸ b)) v
gap_read o f t n ε b v h = then (in_name o f t n) (in_space o f t n (ε ▸ b)) b v (simp (white_no_name b h.1, h.1))
gap_read o f t n (s ▸ a) b v h = gap_read o f t n s a (b ∷ v) h.0 ∙ simp h.1

-- a start tag's end: the white space and the byte that follows it
tag_read : (o : List Open) (f : Content) (t n g : Bytes) (b : ℕ) (v : List ℕ) → ReadsWhite g → name_byte b ≡ false →
    runs (in_name o f t n) (g ⊲ b ∷ v) ≡ runs (tag o f t n g b) v
tag_read o f t n ε b v h e = then (in_name o f t n) (tag o f t n ε b) b v (simp e)
tag_read o f t n (s ▸ a) b v h e = gap_read o f t n s a (b ∷ v) h

end_read : (p : Open) (o : List Open) (f : Content) (t n : Bytes) (r v : List ℕ) →
    runs (in_end_name p o f t ε (n ⊲ r)) (n ⊲ v) ≡ runs (in_end_name p o f t n r) v
end_read p o f t ε r v = refl
end_read p o f t (n ▸ b) r v = end_read p o f t n (b ∷ r) (b ∷ v) ∙ simp (eq-eqb b b refl)

tail_gap : (p : Open) (o : List Open) (f : Content) (t m s : Bytes) (b : ℕ) (v : List ℕ) → ReadsWhite (s ▸ b) →
    runs (in_end_name p o f t m []) ((s ▸ b) ⊲ v) ≡ runs (in_end_space p o f t (s ▸ b)) v
tail_gap p o f t m ε b v h = then (in_end_name p o f t m []) (in_end_space p o f t (ε ▸ b)) b v (simp h.1)
tail_gap p o f t m (s ▸ a) b v h = tail_gap p o f t m s a (b ∷ v) h.0 ∙ simp h.1

tail_read : (p : Open) (o : List Open) (f : Content) (t m h : Bytes) (b : ℕ) (v : List ℕ) → ReadsWhite h →
    runs (in_end_name p o f t m []) (h ⊲ b ∷ v) ≡ runs (tail p o f t h b) v
tail_read p o f t m ε b v k = refl
tail_read p o f t m (s ▸ a) b v k = tail_gap p o f t m s a (b ∷ v) k

open_read : (o : List Open) (f : Content) (t n g : Bytes) (b : ℕ) (v : List ℕ) → GoodTag (level o) f t n g → name_byte b ≡ false →
    runs (in_run o f ε) (t ⊲ 60 ∷ (n ⊲ g ⊲ b ∷ v)) ≡ runs (tag o f t n g b) v
open_read o f t n g b v h e =
    run_read o f t (60 ∷ (n ⊲ g ⊲ b ∷ v)) h.1
    ∙ then (in_run o f t) (after_less o f t) 60 (n ⊲ g ⊲ b ∷ v) (simp h.2)
    ∙ name_read o f t n (g ⊲ b ∷ v) h.3
    ∙ tag_read o f t n g b v h.4 e

pub content_read : (o : List Open) (i : Content) (v : List ℕ) → WellFormed (level o) i → runs (in_run o nothing ε) (print i v) ≡ runs (in_run o i ε) v
unfolding white name_byte name_start text class_number
content_read o nothing v h = refl
content_read o (empty_element f t n g) v h =
    content_read o f (t ⊲ 60 ∷ (n ⊲ g ⊲ 47 ∷ 62 ∷ v)) h.0 ∙ open_read o f t n g 47 (62 ∷ v) h refl
content_read o (element f t n g i l k) v h =
    let p : Open = record { before = f; run = t; name = n; space = g } in
    content_read o f (t ⊲ 60 ∷ (n ⊲ g ⊲ 62 ∷ print i (l ⊲ 60 ∷ 47 ∷ (n ⊲ k ⊲ 62 ∷ v)))) h.0.0
    ∙ open_read o f t n g 62 (print i (l ⊲ 60 ∷ 47 ∷ (n ⊲ k ⊲ 62 ∷ v))) h.0 refl
    ∙ content_read (p ∷ o) i (l ⊲ 60 ∷ 47 ∷ (n ⊲ k ⊲ 62 ∷ v)) h.1
    ∙ run_read (p ∷ o) i l (60 ∷ 47 ∷ (n ⊲ k ⊲ 62 ∷ v)) h.2
    ∙ end_read p o i l n [] (k ⊲ 62 ∷ v)
    ∙ tail_read p o i l n k 62 v h.3

-- THE MACHINE ACCEPTS EXACTLY THE DOCUMENTS, with their content
pub accepts : {w : List ℕ} {f : Content} {t : Bytes} → Document w f t → runs initial w ≡ in_run [] f t
accepts {w} {f} {t} d =
    ap (runs initial) d.printed ∙ content_read [] f (t ⊲ []) (root_formed f d.root) ∙ run_read [] f t [] (white_reads t d.after)

pub accepted : (w : List ℕ) → Final (runs initial w) → (f : Content) × (t : Bytes) × Document w f t
accepted w h = go (runs initial w) refl h
  where
    go : (s : State) → runs initial w ≡ s → Final s → (f : Content) × (t : Bytes) × Document w f t
    go dead e k = absurd k
    go (in_run [] f t) e k =
        let r : GoodS (runs initial w) × ((u : List ℕ) → print_s (runs initial w) u ≡ w ++ u) = reads initial w (tt, tt, tt) (rw e tt) in
        let g : GoodS (in_run [] f t) = rw e at r.0 in
        let q : print_s (in_run [] f t) [] ≡ w ++ [] = rw e at (r.1 []) in
        (f, t, record { printed = sym (append-nil w) ∙ sym q; root = formed_root f g.1 k; after = reads_white t g.2 })
    go (in_run (p ∷ o) f t) e k = absurd k
    go (after_less o f t) e k = absurd k
    go (in_name o f t n) e k = absurd k
    go (in_space o f t n g) e k = absurd k
    go (after_slash o f t n g) e k = absurd k
    go (in_end_name p o f t m r) e k = absurd k
    go (in_end_space p o f t g) e k = absurd k

pub runs_append : (s : State) (u v : List ℕ) → runs s (u ++ v) ≡ runs (runs s u) v
runs_append s [] v = refl
runs_append s (b ∷ u) v = runs_append (step s b) u v

-- A LIVE STATE CAN BE COMPLETED
abbrev Completes : State → Type 0
Completes s = (v : List ℕ) × Final (runs s v)

after : (s s' : State) (u : List ℕ) → runs s u ≡ s' → Completes s' → Completes s
after s s' u e c = (u ++ c.0, rw (runs_append s u c.0, e) c.1)

end_rest : (p : Open) (o : List Open) (f : Content) (t m : Bytes) (r : List ℕ) → runs (in_end_name p o f t m r) (r ++ (62 ∷ [])) ≡ in_run o (element p.before p.run p.name p.space f t ε) ε
unfolding white class_number
end_rest p o f t m [] = refl
end_rest p o f t m (b ∷ r) = then (in_end_name p o f t m (b ∷ r)) (in_end_name p o f t (m ▸ b) r) b (r ++ (62 ∷ [])) (simp (eq-eqb b b refl)) ∙ end_rest p o f t (m ▸ b) r

complete_run : (o : List Open) (f : Content) (t : Bytes) → Completes (in_run o f t)
unfolding white name_byte name_start text class_number
complete_run [] nothing t = (60 ∷ 97 ∷ 47 ∷ 62 ∷ [], refl)
complete_run [] (empty_element f t' n g) t = ([], refl)
complete_run [] (element f t' n g i l h) t = ([], refl)
complete_run (p ∷ o) f t =
    after (in_run (p ∷ o) f t) (in_run o (element p.before p.run p.name p.space f t ε) ε) (60 ∷ 47 ∷ ((p.name ⊲ []) ++ (62 ∷ [])))
    (end_rest p o f t ε (p.name ⊲ [])) (complete_run o (element p.before p.run p.name p.space f t ε) ε)

pub completes : (s : State) → Live s → Completes s
unfolding white name_byte name_start text class_number
completes dead l = absurd l
completes (in_run o f t) l = complete_run o f t
completes (after_less o f t) l = after (after_less o f t) (in_run o (empty_element f t (ε ▸ 97) ε) ε) (97 ∷ 47 ∷ 62 ∷ []) refl (complete_run o (empty_element f t (ε ▸ 97) ε) ε)
completes (in_name o f t n) l = after (in_name o f t n) (in_run o (empty_element f t n ε) ε) (47 ∷ 62 ∷ []) refl (complete_run o (empty_element f t n ε) ε)
completes (in_space o f t n g) l = after (in_space o f t n g) (in_run o (empty_element f t n g) ε) (47 ∷ 62 ∷ []) refl (complete_run o (empty_element f t n g) ε)
completes (after_slash o f t n g) l = after (after_slash o f t n g) (in_run o (empty_element f t n g) ε) (62 ∷ []) refl (complete_run o (empty_element f t n g) ε)
completes (in_end_name p o f t m r) l = after (in_end_name p o f t m r) (in_run o (element p.before p.run p.name p.space f t ε) ε) (r ++ (62 ∷ [])) (end_rest p o f t m r) (complete_run o (element p.before p.run p.name p.space f t ε) ε)
completes (in_end_space p o f t g) l = after (in_end_space p o f t g) (in_run o (element p.before p.run p.name p.space f t g) ε) (62 ∷ []) refl (complete_run o (element p.before p.run p.name p.space f t g) ε)

-- WHERE THE MACHINE LIVES, AND ONLY THERE, A DOCUMENT MAY GO ON
pub lives : (u : List ℕ) → Opening u → Live (runs initial u)
lives u h = live_step (runs initial u) h.0 (rw (← (runs_append initial u h.0), accepts h.3) tt)

pub begins : (u : List ℕ) → Live (runs initial u) → Opening u
begins u l =
    let c : Completes (runs initial u) = completes (runs initial u) l in
    let d : (f : Content) × (t : Bytes) × Document (u ++ c.0) f t = accepted (u ++ c.0) (rw (runs_append initial u c.0) c.1) in
    (c.0, d.0, d.1, d.2)

-- where the machine dies is the place of code 3
pub dies_at : (w : List ℕ) (p : ℕ) → p < length w → Live (runs initial (take p w)) → (Live (runs initial (take (suc p) w)) → ⊥) → OutsideAt w p
dies_at w p h l d = record {
  within = omega arith;
  before = begins (take p w) l;
  there = λ k v. d (lives (take (suc p) w) v);
  early = λ f t k. d (live_step (runs initial (take (suc p) w)) (drop (suc p) w) (rw (← (runs_append initial (take (suc p) w) (drop (suc p) w)), take-append-drop, accepts k) tt));
}

pub ends_early : (w : List ℕ) → Live (runs initial w) → (Final (runs initial w) → ⊥) → OutsideAt w (length w)
ends_early w l n = record {
  within = omega arith;
  before = rw take-length (begins w l);
  there = λ k. absurd (omega arith);
  early = λ f t k. n (rw (accepts k) (root_one f k.root));
}
