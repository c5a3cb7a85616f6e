mod ApartLemmas
mod FreeLemmas
mod HeadLemmas
mod LimitLemmas
mod SignatureLemmas
mod StorageLemmas
mod TableLemmas
mod WordLemmas
