-- How words and bytes go over into each other, a word at a time. Assumes nothing.
use Rattle.std.specs.Prelude.{ℕ, suc, ◌+◌, ◌-◌, ◌*◌, ◌/◌, ◌%◌, ◌<◌, ◌≡◌, refl, List, [], ◌∷◌, ◌++◌, length, get_or, take, drop, set}
use Rattle.std.proofs.Common.{sym, ◌∙◌, append_assoc, append-nil, add-one, arith, length-set, drop-cons, take-suc-set}
use Rattle.std.proofs.Math.Seq.{append_snoc, drop-length, take-length}
use Rattle.std.specs.Int.{to_le_bytes}
use Rattle.std.proofs.lemmas.Slice.{take-put_mid}
use mir.Syntax.{w16}
use borrow.Rule.Slice.PartMut.{put_mid}
use Rattle.replay.specs.Words.{bytes_of, words_of, word_at, word_put}

-- words that are written as bytes read back as the same words
pub words_bytes : (ws : List ℕ) → words_of (bytes_of ws) ≡ ws
unfolding bytes_of words_of
words_bytes [] = refl
words_bytes (w ∷ ws) =
    let e : w % 256 + 256 * (w / 256) ≡ w = omega arith in
    rw (e, words_bytes ws)

-- the first i of ws are those that the bytes s begin with
abbrev pub WordsTo : List ℕ → ℕ → List ℕ → Type 0
WordsTo s i ws = take i ws ++ words_of (drop (2 * i) s) ≡ words_of s

-- the bytes from the i-th word on are that word and the rest
words_cons : (s : List ℕ) (i : ℕ) → 2 * i + 1 < length s → words_of (drop (2 * i) s) ≡ word_at s i ∷ words_of (drop (2 * (i + 1)) s)
unfolding words_of
words_cons s i h =
    let a : 2 * i < length s = omega arith in
    let b : suc (2 * i) < length s = omega arith in
    let e : suc (suc (2 * i)) ≡ 2 * (i + 1) = omega arith in
    let f : suc (2 * i) ≡ 2 * i + 1 = omega arith in
    rw (drop-cons s (2 * i) 0 a, drop-cons s (suc (2 * i)) 0 b, e, f)

-- one word more
pub words_more : (s ws : List ℕ) (i : ℕ) → 2 * i + 1 < length s → i < length ws → WordsTo s i ws → WordsTo s (i + 1) (set ws i (word_at s i))
words_more s ws i k h p =
    let e : take (i + 1) (set ws i (word_at s i)) ≡ take i ws ++ (word_at s i ∷ []) = rw (add-one i) (take-suc-set ws i (word_at s i) h) in
    rw (e, append_snoc, ← words_cons s i k) p

-- where all are read, they are the bytes' words
pub words_all : (s ws : List ℕ) (i : ℕ) → length s ≡ 2 * length ws → i ≡ length ws → WordsTo s i ws → ws ≡ words_of s
unfolding words_of
words_all s ws i k e p =
    let f : 2 * i ≡ length s = omega arith in
    let q : take (length ws) ws ++ words_of (drop (length s) s) ≡ words_of s = rw (← e, ← f) p in
    sym (append-nil ws) ∙ rw (take-length, drop-length) at q

-- the first i words of ws stand at the start of the bytes s
abbrev pub BytesTo : List ℕ → ℕ → List ℕ → Type 0
BytesTo ws i s = take (2 * i) s ++ bytes_of (drop i ws) ≡ bytes_of ws

-- the bytes of the words from the i-th on are that word's two and the rest
bytes_cons : (ws : List ℕ) (i : ℕ) → i < length ws → bytes_of (drop i ws) ≡ (get_or ws i 0 % 256) ∷ (get_or ws i 0 / 256) ∷ bytes_of (drop (i + 1) ws)
unfolding bytes_of
bytes_cons ws i h = rw (add-one i, drop-cons ws i 0 h)

-- after a word is put, the bytes up to its end are those before it and its two
put_word : (s : List ℕ) (i w : ℕ) → 2 * i + 1 < length s → take (2 * (i + 1)) (word_put s i w) ≡ take (2 * i) s ++ ((w % 256) ∷ (w / 256) ∷ [])
put_word s i w h =
    let a : 2 * i < length s = omega arith in
    let b : suc (2 * i) < length (set s (2 * i) (w % 256)) = rw (length-set s (2 * i) (w % 256)) (omega arith) in
    let e : 2 * (i + 1) ≡ suc (suc (2 * i)) = omega arith in
    let f : 2 * i + 1 ≡ suc (2 * i) = omega arith in
    rw (e, f, take-suc-set (set s (2 * i) (w % 256)) (suc (2 * i)) (w / 256) b, take-suc-set s (2 * i) (w % 256) a, append_assoc)

-- one word more
pub bytes_more : (ws s : List ℕ) (i : ℕ) → 2 * i + 1 < length s → i < length ws → BytesTo ws i s → BytesTo ws (i + 1) (word_put s i (get_or ws i 0))
bytes_more ws s i k h p = rw (put_word s i (get_or ws i 0) k, append_assoc, ← bytes_cons ws i h) p

-- the bytes of a word
word_bytes : (w : ℕ) → w < 65536 → to_le_bytes w16 w ≡ (w % 256) ∷ (w / 256) ∷ []
word_bytes w h = let e : w / 256 % 256 ≡ w / 256 = omega arith in rw e refl

-- as a copy of the word's two bytes
pub bytes_copied : (ws s part : List ℕ) (i : ℕ) → 2 * i + 1 < length s → i < length ws → get_or ws i 0 < 65536
    → part ≡ to_le_bytes w16 (get_or ws i 0) → BytesTo ws i s → BytesTo ws (i + 1) (put_mid (2 * i) (2 * i + 2 - 2 * i) s part)
bytes_copied ws s part i k h w e p =
    let two : part ≡ (get_or ws i 0 % 256) ∷ (get_or ws i 0 / 256) ∷ [] = e ∙ word_bytes (get_or ws i 0) w in
    let n : 2 * (i + 1) ≡ 2 * i + length part = rw two (omega arith) in
    let t = take-put_mid (2 * i) (2 * i + 2 - 2 * i) s part (2 * (i + 1)) n (omega arith) in
    rw (t, two, append_assoc, ← bytes_cons ws i h) p

-- where all are written, they are the words' bytes
pub bytes_all : (ws s : List ℕ) (i : ℕ) → length s ≡ 2 * length ws → i ≡ length ws → BytesTo ws i s → s ≡ bytes_of ws
unfolding bytes_of
bytes_all ws s i k e p =
    let f : 2 * i ≡ length s = omega arith in
    let q : take (length s) s ++ bytes_of (drop (length ws) ws) ≡ bytes_of ws = rw (← f, ← e) p in
    sym (append-nil s) ∙ rw (take-length, drop-length) at q
