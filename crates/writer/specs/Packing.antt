-- Fields of bits as bytes, and what a packing holds.
-- An inner contract: who reads the promise of write_record need not believe it, but specs/Written.antt alone.
use Rattle.std.specs.Prelude.{ℕ, ◌+◌, ◌*◌, ◌-◌, ◌≤◌, ◌<◌, ◌≡◌, List, ◌++◌, length, take, drop, replicate}
use Rattle.record.specs.Bits.{AllBelow, bits, bits_of, bytes_of}
use Rattle.record.specs.Layout.{most_record_bytes}
use Rattle.writer.specs.Written.{filled}
use Rattle.writer.specs.declared.pack.Packing.{Packing}

-- fewer than 8 bits are in hand, and there is room for so many more
pub record Ready (p : Packing) (more : ℕ) : Type 0 where
  pub room : 8 * p.at + p.have + more ≤ 8 * most_record_bytes
  pub few : p.have < 8

-- the bits bs are the whole bytes and the bits in hand; the other bytes are 0
pub record Holds (bs bytes : List ℕ) (p : Packing) : Type 0 where
  pub size : length bytes ≡ most_record_bytes
  pub whole : p.at ≤ most_record_bytes
  pub low : AllBelow 256 (take p.at bytes)
  pub blank : drop p.at bytes ≡ replicate (most_record_bytes - p.at) 0
  pub these : bs ≡ bits_of (take p.at bytes) ++ bits p.have p.value

-- these bits more are in hand
pub record Takes (these : List ℕ) (p q : Packing) : Type 0 where
  pub place : q.at ≡ p.at
  pub more : q.have ≡ p.have + length these
  pub bits_are : bits q.have q.value ≡ bits p.have p.value ++ these

-- the same bits are held, one whole byte more
pub record Moves (bytes : List ℕ) (p : Packing) (bytes' : List ℕ) (q : Packing) : Type 0 where
  pub place : q.at ≡ p.at + 1
  pub fewer : q.have + 8 ≡ p.have
  pub held : (bs : List ℕ) → Holds bs bytes p → Holds bs bytes' q

-- these bits more are held, fewer than 8 of all in hand
pub record Puts (these bytes : List ℕ) (p : Packing) (bytes' : List ℕ) (q : Packing) : Type 0 where
  pub held : (bs : List ℕ) → Holds bs bytes p → Holds (bs ++ these) bytes' q
  pub few : q.have < 8

-- the bytes of the bits bs, and how many there are
pub record Ends (bs bytes : List ℕ) (count : ℕ) : Type 0 where
  pub number : count ≡ length (bytes_of bs)
  pub these : bytes ≡ filled (bytes_of bs)
