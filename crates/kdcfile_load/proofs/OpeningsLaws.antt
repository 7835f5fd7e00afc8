-- What the beginning of a file says of the image that stands in it.
use Rattle.std.proofs.Common.{◌≡◌, ℕ, Bool, List, length, Option, Some, None, ap, sym, ◌∙◌}
use Rattle.std.specs.Prelude.{IfSome}
use Rattle.std.proofs.lemmas.Option.{none-some, same_Some}
use Rattle.kd_records.specs.declared.content.Content.{Content}
use Rattle.kd_records.specs.Identity.{Identity}
use Rattle.kdcfile_layout.specs.Fields.{AreBytes}
use Rattle.kdcfile_layout.specs.Layout.{Layout, IsNoImage, directory_pages}
use Rattle.kdcfile_layout.specs.declared.kdcfile_read.head.Head.{Head}
use Rattle.kdcfile_layout.specs.declared.kdcfile_read.root.RootFields.{RootFields}
use Rattle.kdcfile_layout.specs.Reading.{head_of, root_of, numbers_of}
use Rattle.kdcfile_layout.specs.Reads.{front_in, root_in, numbers_in, fields_in, ReadsAs}
use Rattle.kdcfile_layout.specs.ReadsLaws.{files_are_read}
use Rattle.kdcfile_layout.specs.ReadRootsLaws.{numbers_read}
use Rattle.kdcfile_load.specs.Openings.{Opens}
use Rattle.kdcfile_load.specs.declared.opening.Opening.{Opening}

-- as many numbers as were asked for
pub numbers_long : (n : ℕ) (bytes : List ℕ) (o : Option (List ℕ)) → AreBytes bytes → o ≡ numbers_of n bytes → IfSome o (λ ps. length ps ≡ n)
numbers_long n bytes None are e = tt
numbers_long n bytes (Some ps) are e = (numbers_read n bytes ps are (sym e)).0

module _ (i : Identity) (second : Bool) (x : Content) (l : Layout) (h : List ℕ) (reads : ReadsAs i second x l h) where
  module _ (a : Head) (head : head_of (front_in h) ≡ Some a) where
    pub same_head : record { blksize = i.blksize; second = second } ≡ a
    same_head = same_Some (record { blksize = i.blksize; second = second }) a (sym reads.head ∙ head)

    root_there : root_of a.blksize (root_in a.second h) ≡ Some (fields_in i x)
    root_there = ap (λ (b : Head). root_of b.blksize (root_in b.second h)) (sym same_head) ∙ reads.root

    module _ (r : RootFields) (root : root_of a.blksize (root_in a.second h) ≡ Some r) where
      pub same_root : fields_in i x ≡ r
      same_root = same_Some (fields_in i x) r (sym root_there ∙ root)

      pub numbers_there : numbers_of (directory_pages a.blksize r.pgpool) (numbers_in (directory_pages a.blksize r.pgpool) a.second h) ≡ Some l.directory
      numbers_there =
          ap (λ (b : Head). numbers_of (directory_pages b.blksize r.pgpool) (numbers_in (directory_pages b.blksize r.pgpool) b.second h)) (sym same_head)
          ∙ ap (λ (q : RootFields). numbers_of (directory_pages i.blksize q.pgpool) (numbers_in (directory_pages i.blksize q.pgpool) second h)) (sym same_root)
          ∙ reads.numbers

module _ (h : List ℕ) where
  pub no_head : head_of (front_in h) ≡ None → IsNoImage h
  no_head e i x s = none-some (record { blksize = i.blksize; second = s.0 }) (sym e ∙ (files_are_read i s.0 x s.1 h s.2).head)

  module _ (a : Head) (head : head_of (front_in h) ≡ Some a) where
    pub no_root : root_of a.blksize (root_in a.second h) ≡ None → IsNoImage h
    no_root e i x s = none-some (fields_in i x) (sym e ∙ root_there i s.0 x s.1 h (files_are_read i s.0 x s.1 h s.2) a head)

    pub no_numbers : (r : RootFields) → root_of a.blksize (root_in a.second h) ≡ Some r → numbers_of (directory_pages a.blksize r.pgpool) (numbers_in (directory_pages a.blksize r.pgpool) a.second h) ≡ None → IsNoImage h
    no_numbers r root e i x s = none-some s.1.directory (sym e ∙ numbers_there i s.0 x s.1 h (files_are_read i s.0 x s.1 h s.2) a head r root)

-- a beginning that was read is the one of what stands
pub record IsOneOf (i : Identity) (second : Bool) (x : Content) (l : Layout) (p : Opening) : Type 0 where
  pub head : record { blksize = i.blksize; second = second } ≡ p.head
  pub root : fields_in i x ≡ p.root
  pub directory : l.directory ≡ p.directory

pub opened : (i : Identity) (second : Bool) (x : Content) (l : Layout) (h : List ℕ) (p : Opening) → ReadsAs i second x l h → Opens h p → IsOneOf i second x l p
opened i second x l h p reads opens = record {
  head = same_head i second x l h reads p.head opens.head;
  root = same_root i second x l h reads p.head opens.head p.root opens.root;
  directory = same_Some l.directory p.directory (sym (numbers_there i second x l h reads p.head opens.head p.root opens.root) ∙ opens.numbers);
}
