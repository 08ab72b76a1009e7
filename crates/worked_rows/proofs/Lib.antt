mod ApartLemmas
